-- What the calls read of a model's image: the areas' lengths, the records, and the updates that the records say.
-- Assumes nothing.
use mathlib.Core.Path.{◌≡◌, sym, ap, ◌∙◌}
use mathlib.Core.Bool.{true, false}
use Prim.Native.Nat.{ℕ, zero, suc, pred, ◌+◌, ◌*◌, ◌^◌, ◌≤◌, ◌<◌, min, max}
use native.Mathlib.Omega.{arith}
use borrow.Author.Tests.{lt-ltb, eq-eqb}
use lib.ListN.{length, get_or}
use Rattle.tree.specs.Tree.{count_of, root_height}
use Rattle.tree.specs.Place.{halvings}
use Rattle.tree.specs.Contract.{root_span, height_in}
use Rattle.tree.proofs.Word.{own_power, root-in-span}
use Rattle.register.specs.Register.{no_record, part_of, most_page, limited, update_of}
use Rattle.weave.specs.Weave.{place_of}
use Rattle.table.specs.Table.{holds}
use Rattle.versions.specs.Store.{areas_differ, record_of}
use Rattle.model.specs.History.{to_update, updates}
use Rattle.model.specs.Model.{Limits, Model, line_at, update_at, history, numbered}
use Rattle.model.specs.OnModel.{ticket_in}
use Rattle.model.specs.Layout.{node_place, slot_stands, slot_number}
use Rattle.model.proofs.Area.Image.{pages_image, nodes_image}
use Rattle.model.proofs.Area.LayoutLaws.{length-nodes, length-pages, number-from}
use Rattle.model.proofs.Model.Sound.{Sound}
use Rattle.model.proofs.Lists.Tab.{length-tab, get_or-tab}
use Rattle.model.proofs.Calls.Kept.Same.{number-upto}
use Rattle.model.proofs.Line.Owner.{own-update}
use Rattle.demands.proofs.Image.{count_by, register_image, record_image, store_image, areas_image}

module _ (L : Limits) (m : Model) where
  pub length-register : length (register_image L m) ≡ L.updates
  unfolding register_image
  length-register = length-tab L.updates (record_image m)

  pub record-at : (i : ℕ) → i < L.updates → get_or (register_image L m) i no_record ≡ record_image m i
  unfolding register_image
  record-at i h = get_or-tab L.updates (record_image m) i no_record h

  pub record-of : (k : ℕ) → 0 < k → k ≤ L.updates → record_of (areas_image L m) k ≡ record_image m (pred k)
  record-of zero p h = absurd (omega arith)
  record-of (suc k) p h = record-at k h

-- What the calls accept lies within the limits.
pub limited-same : (f last size : ℕ) → f ≤ last → last < size → size ≤ 4096 → limited f last size ≡ record { f = f; last = last; size = size }
limited-same f last size p q r =
    let a : min f most_page ≡ f = omega arith in
    let b : max f (min last most_page) ≡ last = omega arith in
    let c : max (suc last) (min size (suc most_page)) ≡ size = omega arith in
    rw (a, b, c)

module _ (L : Limits) (m : Model) (S : Sound L m) where
  -- Row 3 holds of no image.
  pub areas-agree : holds (areas_differ (store_image L m) (areas_image L m)) ≡ false
  unfolding holds
  areas-agree =
      rw (
        eq-eqb (length (pages_image L m)) (L.size * L.pages) (length-pages L m S),
        eq-eqb (length (nodes_image L m)) (2 * L.nodes) (length-nodes L m),
        eq-eqb (length (register_image L m)) L.updates (length-register L m),
      )

  -- The records of tickets and updates lie within the register.
  pub ticket-room : (t : ℕ) → t ≤ length m.tickets → t ≤ L.updates
  ticket-room t h = omega (arith, S.records)

  pub update-room : (k : ℕ) → k ≤ length m.updates → k ≤ L.updates
  update-room k h = omega (arith, S.fewer, S.records)

  -- The number at which a ticket's pages begin.
  pub number-of : (t : ℕ) → 0 < t → t ≤ length m.tickets → (record_of (areas_image L m) t).number ≡ slot_number m t 0
  number-of zero p h = absurd (omega arith)
  number-of (suc t) p h = rw (record-of L m (suc t) p (ticket-room (suc t) h), lt-ltb t (length m.tickets) h)

  -- The number of the page of slot i, where all pages before it stand.
  pub slot-number : (t i : ℕ) → 0 < t → t ≤ length m.tickets → ((j : ℕ) → j < i → slot_stands m t j ≡ true)
      → (record_of (areas_image L m) t).number + i ≡ slot_number m t i
  slot-number t i o h s = rw (number-of t o h) (sym (number-from m t i s))

module _ (L : Limits) (m : Model) (S : Sound L m) (k : ℕ) (o : 0 < k) (h : k ≤ length m.updates) where
  -- Update k is a version of its line.
  pub own-upto : (update_at m k).number ≤ length (line_at m (update_at m k).line).shown
  own-upto = number-upto m k o (S.updated k o h)

  -- Its pages lie in the blob after it, as its line's versions are accepted one after the other.
  pub update-order : (update_at m k).f ≤ (to_update m.tickets (update_at m k)).last
  update-order = let s = S.updated k o h in omega (arith, (S.tickets (update_at m k).ticket s.from s.upto).some-pages)

  pub update-fits : (to_update m.tickets (update_at m k)).last < (update_at m k).size
  update-fits =
      let s = S.updated k o h in
      let v = (update_at m k).number in
      let us = updates (history m (update_at m k).line) in
      let e = own-update L m S k o h in
      let n : suc (pred v) ≡ v = omega (arith, s.own) in
      let g = rw n at ((S.lines (update_at m k).line s.line).accepted (pred v) (omega (arith, own-upto, s.own))).grows in
      let g' = rw e at g in
      omega arith

  -- What its record says.
  pub part-image : part_of (record_of (areas_image L m) k) ≡ part_of (record_image m (pred k))
  part-image = ap part_of (record-of L m k o (update-room L m S k h))

  at-pred : suc (pred k) ≡ k
  at-pred = omega arith

  pub update-image : update_of (part_of (record_image m (pred k))) ≡ to_update m.tickets (update_at m k)
  unfolding update_of
  update-image =
      ap (λ (j : ℕ). limited (update_at m j).f (to_update m.tickets (update_at m j)).last (update_at m j).size) at-pred
      ∙ limited-same _ _ _ update-order update-fits (S.updated k o h).upward

  pub name-image : (record_image m (pred k)).name ≡ numbered (update_at m k).line (update_at m k).number
  name-image = ap (λ (j : ℕ). numbered (update_at m j).line (update_at m j).number) at-pred

  pub woven-image : (record_image m (pred k)).woven ≡ (ticket_in m (update_at m k).ticket).woven
  woven-image = ap (λ (j : ℕ). (ticket_in m (update_at m j).ticket).woven) at-pred

  -- Its root's span, as the table has it for its size.
  span-held : height_in (root_span (update_at m k).size) ≡ root_height (update_at m k).size
  span-held = (root-in-span (update_at m k).size (omega (arith, update-fits)) (S.updated k o h).upward).1

  pub span-power : root_span (update_at m k).size ≡ 2 ^ root_height (update_at m k).size
  span-power =
      let r = root-in-span (update_at m k).size (omega (arith, update-fits)) (S.updated k o h).upward in
      own_power (root_span (update_at m k).size) r.0 ∙ ap (λ (j : ℕ). 2 ^ j) span-held

  pub span-image : (record_image m (pred k)).span ≡ root_span (update_at m k).size
  span-image = ap (λ (j : ℕ). root_span (update_at m j).size) at-pred

  pub height-image : height_in (record_image m (pred k)).span ≡ root_height (update_at m k).size
  height-image = ap height_in span-image ∙ span-held

  pub past-image : (record_image m (pred k)).past ≡ halvings (update_at m k).f
  past-image = ap (λ (j : ℕ). halvings (update_at m j).f) at-pred

  pub count-image : (record_image m (pred k)).count ≡ count_of (to_update m.tickets (update_at m k))
  count-image = ap (λ (j : ℕ). count_by m.tickets (update_at m j)) at-pred ∙ rw (lt-ltb 0 (update_at m k).ticket (S.updated k o h).from)

  -- Where its nodes lie.
  pub top-image : (record_image m (pred k)).top ≡ node_place m k 0 + root_height (update_at m k).size
  top-image = rw (lt-ltb (pred k) (length m.updates) (omega arith)) (ap (λ (j : ℕ). node_place m j 0 + root_height (update_at m j).size) at-pred)

  pub place-image : place_of (part_of (record_image m (pred k))) ≡ node_place m k 0
  place-image = rw (top-image, height-image) (omega arith)
