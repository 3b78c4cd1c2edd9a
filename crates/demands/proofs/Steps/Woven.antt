-- What WEAVE leaves of a model's image: the store and the pages as they were, one node more, and one more woven in the update's record.
-- Assumes nothing.
use mathlib.Core.Path.{◌≡◌, refl, sym, ap, ◌∙◌}
use mathlib.Core.Logic.{◌≢◌, inl, inr}
use mathlib.Core.Bool.{true}
use Prim.Native.Nat.{ℕ, suc, pred, ◌≤◌, ◌<◌}
use native.Mathlib.Decide.{ℕ_discrete}
use native.Mathlib.Omega.{arith}
use borrow.Author.Tests.{lt-ltb, le-ltb}
use lib.Dec.{ltb}
use lib.ListN.{length}
use Rattle.tree.specs.NodeArea.{with_node}
use Rattle.tree.proofs.Meets.{lt-or-le}
use Rattle.register.specs.Register.{woven_to as part_woven, with_record}
use Rattle.weave.specs.Weave.{with_woven}
use Rattle.model.specs.History.{Ticket, no_ticket, no_version, pages_of}
use Rattle.model.specs.Model.{Limits, Model, update_at, ticket_update}
use Rattle.model.specs.OnModel.{ticket_in, woven}
use Rattle.model.specs.Layout.{node_stands, node_place}
use Rattle.model.proofs.Area.Image.{pages_image, numbers_of, woven_of, node_of, weave_cell, nodes_image}
use Rattle.model.proofs.Model.Sound.{Sound}
use Rattle.model.proofs.Lists.Nth.{nth-set-field, nth_past}
use Rattle.model.proofs.Calls.Grows.{Grown}
use Rattle.model.proofs.Area.LayoutLaws.{node-put, pages-same}
use Rattle.model.proofs.Model.Passed.{WeavePassed}
use Rattle.model.proofs.Model.Updated.{update-le, update-ticket}
use Rattle.model.proofs.Calls.Kept.Change.{changed-length, changed-other}
use Rattle.model.proofs.Calls.Kept.Weave.{woven_ticket, woven-this, woven-grown}
use Rattle.demands.proofs.Image.{record_image, register_image, store_image}
use Rattle.demands.proofs.Records.{update-room}
use Rattle.demands.proofs.Puts.{register-put}
use Rattle.demands.proofs.Steps.Parts.{UpdatePart, all_same, ticket_part, update_part, ticket-part}
use Rattle.demands.proofs.Steps.Grown.{place-at-kept, numbers-grown}
use Rattle.demands.proofs.Steps.Changed.{changed-store, changed-number, changed-update-part}

-- One number more leaves the test of every other number.
ltb-other : (i n : ℕ) → i ≢ n → ltb i (suc n) ≡ ltb i n
ltb-other i n d = elim (lt-or-le i n) [
  | inl l ↦ lt-ltb i (suc n) (omega arith) ∙ sym (lt-ltb i n l)
  | inr l ↦ le-ltb i (suc n) (omega arith) ∙ sym (le-ltb i n l)
]

-- An update's part with so many nodes woven.
abbrev woven_to : UpdatePart → ℕ → UpdatePart
woven_to u k = record { ticket = u.ticket; part = part_woven u.part k }

-- The update of record i is not t's, where t's is another.
ticket-not : (m : Model) (t i : ℕ) → 0 < t → ((k : ℕ) → 0 < k → k ≤ length m.updates → (update_at m k).ticket ≡ t → k ≡ ticket_update m t)
    → i ≢ pred (ticket_update m t) → (update_at m (suc i)).ticket ≢ t
ticket-not m t i o back n e = elim (lt-or-le i (length m.updates)) [
  | inl l ↦ n (omega (arith, back (suc i) (omega arith) l e))
  | inr l ↦ omega (arith, rw (nth_past no_version m.updates (suc i) (omega arith)) at e)
]

module _ (L : Limits) (m : Model) (t : ℕ) (S : Sound L m) (p : WeavePassed m t) where
  slots_same : (u : ℕ) → (ticket_in (woven L m t) u).slots ≡ (ticket_in m u).slots
  slots_same u = nth-set-field no_ticket m.tickets t (woven_ticket L m t) p.from (λ (x : Ticket). x.slots) u refl

  count_same : (u : ℕ) → pages_of (ticket_in (woven L m t) u) ≡ pages_of (ticket_in m u)
  count_same u = nth-set-field no_ticket m.tickets t (woven_ticket L m t) p.from pages_of u refl

  long : length (woven L m t).tickets ≡ length m.tickets
  long = changed-length m t (woven_ticket L m t) p.from refl

  other-same : (u : ℕ) → u ≢ t → ticket_in (woven L m t) u ≡ ticket_in m u
  other-same u n = changed-other m t (woven_ticket L m t) p.from refl u n

  -- An update whose ticket is t is t's.
  back : (k : ℕ) → 0 < k → k ≤ length m.updates → (update_at m k).ticket ≡ t → k ≡ ticket_update m t
  back k o h e = sym (rw e at (S.updated k o h).back)

  grown : Grown m (woven L m t)
  grown = woven-grown L m t S p

  pub woven-store : store_image L m ≡ store_image L (woven L m t)
  woven-store = changed-store L m S t (woven_ticket L m t) p.from refl grown

  pub woven-pages : pages_image L m ≡ pages_image L (woven L m t)
  woven-pages = pages-same m (woven L m t) grown L long (λ u i o h l s. rw (slots_same u))

  -- ---- the nodes

  woven-was : (k : ℕ) → (update_at m k).ticket ≡ t → woven_of m k ≡ (ticket_in m t).woven
  woven-was k e = ap (λ (u : ℕ). (ticket_in m u).woven) e

  woven-now : (k : ℕ) → (update_at m k).ticket ≡ t → woven_of (woven L m t) k ≡ suc (ticket_in m t).woven
  woven-now k e = ap (λ (u : ℕ). (ticket_in (woven L m t) u).woven) e ∙ ap (λ (x : Ticket). x.woven) (woven-this L m t S p)

  cell_as : (k i : ℕ) → 0 < k → k ≤ length m.updates → node_stands m k i ≡ true → ltb i (woven_of (woven L m t) k) ≡ ltb i (woven_of m k)
      → weave_cell m k i ≡ weave_cell (woven L m t) k i
  cell_as k i o h s e = rw (numbers-grown L m (woven L m t) S grown k i o h s, e)

  cells-other : (k i : ℕ) → 0 < k → k ≤ length m.updates → node_stands m k i ≡ true → (k ≡ ticket_update m t → i ≡ (ticket_in m t).woven → ⊥)
      → weave_cell m k i ≡ weave_cell (woven L m t) k i
  cells-other k i o h s n = elim (ℕ_discrete (update_at m k).ticket t) [
    | yes e ↦ cell_as k i o h s (rw (woven-now k e, woven-was k e) (ltb-other i (ticket_in m t).woven (n (back k o h e))))
    | no d ↦ cell_as k i o h s (ap (λ (x : Ticket). ltb i x.woven) (other-same (update_at m k).ticket d))
  ]

  -- The update's ticket is t again.
  its-ticket : (update_at m (ticket_update m t)).ticket ≡ t
  its-ticket = update-ticket m t p.assigned

  -- The next node stands, and is stored.
  module _ (s : node_stands m (ticket_update m t) (ticket_in m t).woven ≡ true) where
    cell-this : weave_cell (woven L m t) (ticket_update m t) (ticket_in m t).woven ≡ numbers_of m (ticket_update m t) (node_of m (ticket_update m t) (ticket_in m t).woven)
    cell-this =
        let j = (ticket_in m t).woven in
        rw (woven-now (ticket_update m t) its-ticket, lt-ltb j (suc j) (omega arith)) (numbers-grown L m (woven L m t) S grown (ticket_update m t) j p.assigned (update-le m t) s)

    pub woven-nodes : (l r : ℕ) → numbers_of m (ticket_update m t) (node_of m (ticket_update m t) (ticket_in m t).woven) ≡ (l, r)
        → with_node (nodes_image L m) (node_place m (ticket_update m t) (ticket_in m t).woven) l r ≡ nodes_image L (woven L m t)
    woven-nodes l r e =
        node-put m (woven L m t) grown L S refl (ticket_update m t) (ticket_in m t).woven l r p.assigned (update-le m t) s cells-other (cell-this ∙ e)

  -- ---- the register

  ticket-same : (i : ℕ) → ticket_part m i ≡ ticket_part (woven L m t) i
  ticket-same i = ticket-part m (woven L m t) i (slots_same (suc i)) (changed-number L m S t (woven_ticket L m t) p.from refl grown i) refl

  -- The part of the ticket's update has one node more woven.
  part-this : (i : ℕ) → (update_at m (suc i)).ticket ≡ t → update_part (woven L m t) i ≡ woven_to (update_part m i) (suc (update_part m i).part.woven)
  part-this i e = rw (count_same (update_at m (suc i)).ticket, place-at-kept L m (woven L m t) S grown refl i, woven-now (suc i) e, woven-was (suc i) e)

  pub woven-register : with_record (register_image L m) (pred (ticket_update m t)) (with_woven (record_image m (pred (ticket_update m t)))) ≡ register_image L (woven L m t)
  woven-register =
      let i = pred (ticket_update m t) in
      let n : suc i ≡ ticket_update m t = omega (arith, p.assigned) in
      register-put L m (woven L m t) i (with_woven (record_image m i)) (omega (arith, update-room L m S (ticket_update m t) (update-le m t)))
      (λ j z d. all_same (ticket-same j) (changed-update-part L m S t (woven_ticket L m t) p.from refl grown j (ticket-not m t j p.from back d)) refl)
      (all_same (sym (ticket-same i)) (part-this i (ap (λ (k : ℕ). (update_at m k).ticket) n ∙ its-ticket)) refl)
