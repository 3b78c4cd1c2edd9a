-- What lies where it did after a call that adds: the numbers at which tickets' pages begin, the places at which updates' nodes do, and the updates' nodes.
-- Assumes nothing.
use mathlib.Core.Path.{◌≡◌, refl, sym, ap, ◌∙◌}
use mathlib.Core.Logic.{inl, inr}
use mathlib.Core.Bool.{true}
use mathlib.Core.List.{List}
use Prim.Native.Nat.{ℕ, zero, suc, ◌-◌, ◌≤◌, ◌<◌}
use native.Mathlib.Omega.{arith}
use borrow.Author.Tests.{lt-ltb, le-ltb}
use lib.Dec.{ltb}
use lib.ListN.{length, get_or}
use Rattle.tree.specs.Tree.{Update, Node, node, weaving, nth, update}
use Rattle.tree.proofs.Meets.{lt-or-le}
use Rattle.model.specs.History.{Ticket, Version, no_ticket, no_version, updates}
use Rattle.model.specs.Model.{Limits, Model, line_at, update_at, history, update_from}
use Rattle.model.specs.Layout.{node_stands, slot_number}
use Rattle.model.specs.OnModel.{ticket_in, left_of, right_of, either}
use Rattle.model.proofs.Lists.Laid.{Pair, ones_pair}
use Rattle.model.proofs.Area.Image.{numbers_of, woven_of, node_of, nodes_image}
use Rattle.model.proofs.Model.Sound.{Sound}
use Rattle.model.proofs.Calls.Grows.{Grown, update-grown}
use Rattle.model.proofs.Area.LayoutLaws.{NodesSame, place_kept, number-kept, nodes-same}
use Rattle.model.proofs.Calls.Older.{older-same}
use Rattle.model.proofs.Line.Owner.{own-update}
use Rattle.model.proofs.History.Stay.{update-stays, left-stays, right-stays}
use Rattle.model.proofs.Area.Leaves.{leaf-slot}
use Rattle.demands.proofs.Image.{number_at, first_place_at, record_image}
use Rattle.demands.proofs.Records.{own-upto}
use Rattle.demands.proofs.Steps.Parts.{all_same, entries_at, ticket-part, update-part}

module _ (L : Limits) (m m' : Model) (S : Sound L m) (g : Grown m m') where
  -- ---- where a ticket's pages and an update's nodes begin

  pub number-begins : (i : ℕ) → i < length m.tickets → slot_number m' (suc i) 0 ≡ slot_number m (suc i) 0
  number-begins i h = number-kept m m' g (suc i) 0 (omega arith) h (S.tickets (suc i) (omega arith) h).some-pages

  pub number-at-kept : length m'.tickets ≡ length m.tickets → (i : ℕ) → number_at m' i ≡ number_at m i
  number-at-kept e i = rw e (elim (lt-or-le i (length m.tickets)) [
    | inl h ↦ rw (lt-ltb i (length m.tickets) h) (number-begins i h)
    | inr h ↦ rw (le-ltb i (length m.tickets) h)
  ])

  pub place-at-kept : length m'.updates ≡ length m.updates → (i : ℕ) → first_place_at m' i ≡ first_place_at m i
  place-at-kept e i = rw e (elim (lt-or-le i (length m.updates)) [
    | inl h ↦ rw (lt-ltb i (length m.updates) h) (place_kept m m' g (suc i) 0 h)
    | inr h ↦ rw (le-ltb i (length m.updates) h)
  ])

  -- ---- an update's nodes

  -- They keep their numbers: its line's versions up to it stay, and the numbers of its pages.
  module _ (k j : ℕ) (o : 0 < k) (h : k ≤ length m.updates) (s : node_stands m k j ≡ true) where
    -- A node's numbers, by its update's version.
    abbrev numbers_by : Version → Pair
    numbers_by u =
        let w = history m' u.line in
        (left_of w u.number (slot_number m' u.ticket) (node_of m k j), right_of w u.number (node_of m k j))

    left-kept : (x : Node) → node_of m k j ≡ x
        → let u = update_at m k in
        left_of (history m' u.line) u.number (slot_number m' u.ticket) x
        ≡ left_of (history m u.line) u.number (slot_number m u.ticket) x
    left-kept (node a zero) e =
        let u = update_at m k in
        let c = S.updated k o h in
        let same = older-same L m m' S g u.line c.line in
        let n = length (line_at m u.line).shown in
        let begins : (update (updates (history m u.line)) u.number).f ≡ u.f = ap (λ (z : Update). z.f) (own-update L m S k o h) in
        rw (update-stays (history m' u.line) (history m u.line) n same u.number (own-upto L m S k o h), begins)
        (number-kept m m' g u.ticket (a - u.f) c.from c.upto (leaf-slot L m S k o h j a s e))
    left-kept (node a (suc d)) e =
        let u = update_at m k in
        left-stays (history m' u.line) (history m u.line) (length (line_at m u.line).shown) (older-same L m m' S g u.line (S.updated k o h).line) u.number (λ (i : ℕ). 0)
        (own-upto L m S k o h) (node a (suc d))

    right_kept : let u = update_at m k in right_of (history m' u.line) u.number (node_of m k j) ≡ right_of (history m u.line) u.number (node_of m k j)
    right_kept =
        let u = update_at m k in
        right-stays (history m' u.line) (history m u.line) (length (line_at m u.line).shown) (older-same L m m' S g u.line (S.updated k o h).line) u.number
        (own-upto L m S k o h) (node_of m k j)

    pub numbers-grown : numbers_of m' k (node_of m' k j) ≡ numbers_of m k (node_of m k j)
    numbers-grown =
        ap (λ (u : Update). numbers_of m' k (get_or (weaving u) j (node 0 0))) (update-grown m m' g k h)
        ∙ ap (λ (w : Version). numbers_by w) (g.version k h)
        ∙ (λ i. (left-kept (node_of m k j) refl i, right_kept i))

  -- So where an update's ticket stays its nodes do.
  module _ (tickets : (k : ℕ) → 0 < k → k ≤ length m.updates → ticket_in m' (update_at m k).ticket ≡ ticket_in m (update_at m k).ticket) where
    pub cells-grown : NodesSame m m' g
    cells-grown k i o h s =
        let w : woven_of m' k ≡ woven_of m k = ap (λ (x : Version). (ticket_in m' x.ticket).woven) (g.version k h) ∙ ap (λ (t : Ticket). t.woven) (tickets k o h) in
        let e = numbers-grown k i o h s in
        sym (λ z. either (ltb i (w z)) (e z) ones_pair)

    pub nodes-grown : length m'.updates ≡ length m.updates → nodes_image L m ≡ nodes_image L m'
    nodes-grown same = nodes-same m m' g L same cells-grown

  -- A record, where the tickets and the updates stay, and the lines' own versions.
  pub record_same : m'.tickets ≡ m.tickets → m'.updates ≡ m.updates → (i : ℕ) → entries_at m i ≡ entries_at m' i → record_image m i ≡ record_image m' i
  record_same a b i e =
      all_same
      (ticket-part m m' i (ap (λ (ks : List Ticket). (nth no_ticket ks (suc i)).slots) a) (number-at-kept (ap length a) i) (ap (λ (us : List Version). update_from 1 us (suc i)) b))
      (update-part m m' i (ap (λ (us : List Version). nth no_version us (suc i)) b) (ap (λ (ks : List Ticket). nth no_ticket ks (update_at m (suc i)).ticket) a)
      (place-at-kept (ap length b) i))
      e
