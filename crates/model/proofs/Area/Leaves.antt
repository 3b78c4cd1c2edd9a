-- An update's leaves show pages of its ticket; while WEAVE goes on, these all stand, and their numbers follow each other.
-- Assumes nothing.
use mathlib.Core.Path.{◌≡◌, sym, ap, ◌∙◌}
use mathlib.Core.Logic.{inl, inr}
use mathlib.Core.Bool.{true}
use Prim.Native.Nat.{ℕ, ◌+◌, ◌-◌, ◌≤◌, ◌<◌}
use native.Mathlib.Omega.{arith}
use lib.ListN.{length}
use Rattle.tree.specs.Tree.{node}
use Rattle.tree.proofs.First.{first_leaf}
use Rattle.tree.proofs.Meets.{lt-or-le}
use Rattle.tree.proofs.Walk.{node-has}
use Rattle.tree.proofs.Weaving.{Inside, accepted-inside, weaving-kth, kth-node}
use Rattle.model.specs.History.{pages_of, to_update, updates}
use Rattle.model.specs.Model.{Limits, Model, line_at, update_at, history, ticket_update}
use Rattle.model.specs.Layout.{node_stands, slot_stands, slot_number}
use Rattle.model.specs.OnModel.{ticket_in}
use Rattle.model.proofs.Area.Image.{node_of}
use Rattle.model.proofs.Model.Sound.{SoundGiven}
use Rattle.model.proofs.Model.Facts.{update-got, pages-end}
use Rattle.model.proofs.Model.Updated.{update-le, update-ticket}
use Rattle.model.proofs.Model.Shown.{complete-whole}
use Rattle.model.proofs.Line.Owner.{own-update}
use Rattle.model.proofs.Model.Passed.{WeavePassed}
use Rattle.model.proofs.Area.LayoutLaws.{stands-few, stands-unpublished, page-unpublished, number-from}
use Rattle.model.proofs.Calls.Kept.Same.{number-upto}

module _ {A : Type 0} (L : Limits) (m : Model) (S : SoundGiven A L m) where
  module _ (k : ℕ) (o : 0 < k) (h : k ≤ length m.updates) where
    -- An update's pages are some, and lie in its root.
    pub own-inside : Inside (to_update m.tickets (update_at m k))
    own-inside =
        let s = S.updated k o h in
        let l = (update_at m k).line in
        rw (own-update L m S k o h)
        at (accepted-inside (updates (history m l)) (length (line_at m l).shown) (S.lines l s.line).accepted (update_at m k).number (omega (arith, s.own)) (number-upto m k o s))

    -- The page of each leaf is that of a slot of its ticket.
    pub leaf-slot : (j a : ℕ) → node_stands m k j ≡ true → node_of m k j ≡ node a 0 → a - (update_at m k).f < pages_of (ticket_in m (update_at m k).ticket)
    leaf-slot j a s e =
        let u = to_update m.tickets (update_at m k) in
        let few = stands-few m k j s in
        let n = node-has u a 0 (kth-node u own-inside j a 0 few (sym (weaving-kth u own-inside j few) ∙ e)).1 in
        omega (arith, first_leaf a, pages-end L m S k o h)

  -- ---- the node that WEAVE stores next

  module _ (t : ℕ) (p : WeavePassed m t) where
    abbrev its : ℕ
    its = ticket_update m t

    -- Not all nodes of its update are woven, so that it is not published.
    pub next-late : (line_at m (update_at m its).line).published < (update_at m its).number
    next-late =
        let l = (update_at m its).line in
        let v = (update_at m its).number in
        let s = update-got L m S t p.assigned in
        elim (lt-or-le (line_at m l).published v) [
          | inl q ↦ q
          | inr q ↦
              let k = rw s.shown at (complete-whole m l v ((S.lines l s.line).woven v (omega (arith, s.own)) q)) in
              let same = ap (λ (u : ℕ). (ticket_in m u).woven) (update-ticket m t p.assigned) in
              absurd (omega (arith, p.left))
        ]

    pub next-stands : node_stands m its (ticket_in m t).woven ≡ true
    next-stands = stands-unpublished m its (ticket_in m t).woven next-late p.left

    -- All pages of its ticket stand.
    pub next-pages : (i : ℕ) → i < pages_of (ticket_in m t) → slot_stands m t i ≡ true
    next-pages i h = page-unpublished m t i p.from p.upto h p.assigned next-late

    module _ (a : ℕ) (e : node_of m its (ticket_in m t).woven ≡ node a 0) where
      -- Where it is a leaf, its page is that of a slot of the ticket,
      pub next-slot : a - (update_at m its).f < pages_of (ticket_in m t)
      next-slot =
          let s = ap (λ (u : ℕ). pages_of (ticket_in m u)) (update-ticket m t p.assigned) in
          omega (arith, leaf-slot its p.assigned (update-le m t) (ticket_in m t).woven a next-stands e)

      -- and its number is so many after that of the first slot.
      pub next-number : slot_number m t (a - (update_at m its).f) ≡ slot_number m t 0 + (a - (update_at m its).f)
      next-number = number-from m t (a - (update_at m its).f) (λ j h. next-pages j (omega (arith, next-slot)))
