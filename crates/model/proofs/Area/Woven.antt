-- The nodes of a published version of a line that stand in the node area of a model have the line's numbers, whichever line wrote them.
-- Assumes nothing.
use mathlib.Core.Path.{◌≡◌, refl, sym, ap, ap₂, ◌∙◌}
use mathlib.Core.Bool.{true}
use mathlib.Core.Logic.{inr}
use Prim.Native.Nat.{ℕ, zero, suc, ◌+◌, ◌^◌, ◌≤◌, ◌<◌}
use native.Mathlib.Omega.{arith}
use borrow.Author.Tests.{lt-ltb}
use lib.ListN.{length}
use Rattle.tree.specs.Tree.{Node, node, newest}
use Rattle.tree.specs.NodeArea.{node_at, stored}
use Rattle.tree.specs.Walk.{left_by, right_by}
use Rattle.tree.proofs.Newest.{newest-le}
use Rattle.model.specs.History.{updates}
use Rattle.model.specs.Model.{Limits, Model, line_at, update_at, history}
use Rattle.model.specs.Layout.{node_stands, node_place, slot_number}
use Rattle.model.specs.OnModel.{left_of, right_of}
use Rattle.model.specs.Snapshot.{numbers_on}
use Rattle.model.proofs.Area.Image.{numbers_of, woven_of, node_of, weave_cell, nodes_image}
use Rattle.model.proofs.Model.Sound.{Sound}
use Rattle.model.proofs.Area.LayoutLaws.{stands-few, node-read}
use Rattle.model.proofs.History.Updates.{f-at}
use Rattle.model.proofs.Model.Shown.{shown_at, Whole, version-shown, complete-whole}
use Rattle.model.proofs.History.Stay.{left-stays, right-stays}
use Rattle.model.proofs.Line.Owner.{owner_of}
use Rattle.model.proofs.Line.Owned.{owner-reads}
use Rattle.model.proofs.Line.Numbers.{number-below}

module _ (L : Limits) (m : Model) (S : Sound L m) (l : ℕ) (there : l < length m.lines) where
  -- ---- the numbers of a version's nodes, as the line on which it got its number has them

  module _ (v : ℕ) (o : 0 < v) (h : v ≤ length (line_at m l).shown) where
    left_here : (x : Node) → left_of (history m l) v (slot_number m (update_at m (shown_at m l v)).ticket) x ≡ left_by (updates (history m l)) (numbers_on m l) v x
    left_here (node a zero) = rw (f-at (history m l) v, version-shown m l v)
    left_here (node a (suc j)) = refl

    right-here : (x : Node) → right_of (history m l) v x ≡ right_by (updates (history m l)) (numbers_on m l) v x
    right-here (node a zero) = refl
    right-here (node a (suc j)) = refl

    -- They are the line's own.
    pub left-same : (x : Node) → (numbers_of m (shown_at m l v) x).0 ≡ left_by (updates (history m l)) (numbers_on m l) v x
    left-same x =
        let w = history m (owner_of m l v) in
        let n = slot_number m (update_at m (shown_at m l v)).ticket in
        ap (λ (k : ℕ). left_of w k n x) ((S.lines l there).number v o h)
        ∙ sym (left-stays (history m l) w v (owner-reads L m S v o l there h) v n (omega arith) x)
        ∙ left_here x

    pub right-same : (x : Node) → (numbers_of m (shown_at m l v) x).1 ≡ right_by (updates (history m l)) (numbers_on m l) v x
    right-same x =
        let w = history m (owner_of m l v) in
        ap (λ (k : ℕ). right_of w k x) ((S.lines l there).number v o h)
        ∙ sym (right-stays (history m l) w v (owner-reads L m S v o l there h) v (omega arith) x)
        ∙ right-here x

    -- A node's right number is not all ones.
    right-low : (x : Node) → right_by (updates (history m l)) (numbers_on m l) v x < 1048576
    right-low (node a zero) = omega arith
    right-low (node a (suc j)) =
        let us = updates (history m l) in
        number-below L m S l (newest us v (a + 2 ^ j) (2 ^ j)) there (omega (arith, newest-le us v (a + 2 ^ j) (2 ^ j)))

  -- ---- a published version

  pub published-upto : (v : ℕ) → v ≤ (line_at m l).published → v ≤ length (line_at m l).shown
  published-upto v h = omega (arith, (S.lines l there).published)

  module _ (v i : ℕ) (o : 0 < v) (h : v ≤ (line_at m l).published) (s : node_stands m (shown_at m l v) i ≡ true) where
    stored-cell : weave_cell m (shown_at m l v) i ≡ numbers_of m (shown_at m l v) (node_of m (shown_at m l v) i)
    stored-cell =
        let k = shown_at m l v in
        let full : Whole m k = complete-whole m l v ((S.lines l there).woven v o h) in
        rw (lt-ltb i (woven_of m k) (omega (arith, stands-few m k i s)))

    -- Each of its nodes that stands has its numbers as the line has them.
    pub node-there : node_at (nodes_image L m) (node_place m (shown_at m l v) i)
        ≡ stored
        (left_by (updates (history m l)) (numbers_on m l) v (node_of m (shown_at m l v) i))
        (right_by (updates (history m l)) (numbers_on m l) v (node_of m (shown_at m l v) i))
    node-there =
        let k = shown_at m l v in
        let x = node_of m k i in
        let q = published-upto v h in
        let low = right-low v o q x in
        node-read L m S k i _ _ ((S.lines l there).some v o q) ((S.lines l there).most v o q) s
        (stored-cell ∙ ap₂ (λ (a b : ℕ). (a, b)) (left-same v o q x) (right-same v o q x)) (inr (λ z. omega arith))
