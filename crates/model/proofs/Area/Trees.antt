-- Where every node that version k's root leads to stands, the tree that the node area holds from version k's number down is the tree rule's.
-- Assumes nothing.
use Rattle.std.proofs.Common.{Option}
use mathlib.Core.Path.{◌≡◌, refl, sym, subst₂, ◌∙◌}
use mathlib.Core.Logic.{inl, inr}
use mathlib.Core.List.{List}
use Prim.Native.Nat.{ℕ, zero, suc, ◌+◌, ◌^◌, ◌≤◌, ◌<◌}
use native.Mathlib.Omega.{arith}
use lib.Pow.{pow_pos}
use Rattle.tree.specs.Tree.{Update, node, newest, height_of}
use Rattle.tree.specs.Place.{first}
use Rattle.tree.specs.Walk.{Accepted, Numbers, left_by, right_by, Stands, visit, version_over}
use Rattle.tree.proofs.Meets.{lt-or-le}
use Rattle.tree.proofs.First.{first-root, first-nest}
use Rattle.tree.proofs.Newest.{newest-inside, newest-le}
use Rattle.tree.proofs.Weaving.{grid-left, grid-right}
use Rattle.tree.proofs.Walk.{newest-own}
use Rattle.model.specs.Snapshot.{tree_of, leaf_in, inner_in, tree_in}
use Rattle.tree.specs.NodeArea.{stored}

-- The tree from a number that is not 0.
module _ (at : ℕ → ℕ → ℕ → Option ℕ) (area : List ℕ) where
  leaf-in : (c a : ℕ) → 0 < c → tree_in at area 0 c a ≡ leaf_in (visit area (at c a 0)) c a
  unfolding tree_in
  leaf-in zero a o = absurd (omega arith)
  leaf-in (suc c) a o = refl

  inner-in : (h c a : ℕ) → 0 < c
      → tree_in at area (suc h) c a
      ≡ inner_in (visit area (at c a (suc h))) c a (suc h) (λ (l : ℕ). tree_in at area h l a) (λ (r : ℕ). tree_in at area h r (a + 2 ^ h))
  unfolding tree_in
  inner-in h zero a o = absurd (omega arith)
  inner-in h (suc c) a o = refl

module _ (us : List Update) (k : ℕ) (accepted : (v : ℕ) → v < k → Accepted us v) (N : Numbers) (at : ℕ → ℕ → ℕ → Option ℕ) (area : List ℕ)
    (none-called : N.code 0 ≡ 0) (called : (v : ℕ) → 0 < v → v ≤ k → 0 < N.code v)
    (stands : (p h : ℕ) → 0 < version_over us k p h → h ≤ height_of us k → p < 2 ^ height_of us k → Stands us N at area k p h) where
  -- The two numbers of a node that version k's root leads to.
  node-stored : (h a w : ℕ) → h ≤ height_of us k → first a h ≡ a → a < 2 ^ height_of us k → 0 < w → w ≡ newest us k a (2 ^ h)
      → visit area (at (N.code w) a h) ≡ stored (left_by us N w (node a h)) (right_by us N w (node a h))
  node-stored h a w q g r o e =
      let over : 0 < version_over us k a h = rw (g, ← e) o in
      let s = stands a h over q r in
      subst₂ (λ (x y : ℕ). visit area (at (N.code y) a h) ≡ stored (left_by us N y (node x h)) (right_by us N y (node x h))) g (rw g (sym e)) s

  none_below : (h a : ℕ) → tree_in at area h (N.code 0) a ≡ tree_of us N h 0 a
  unfolding tree_in tree_of
  none_below zero a = rw none-called
  none_below (suc h) a = rw none-called

  tree-from : (h a w : ℕ) → h ≤ height_of us k → first a h ≡ a → a < 2 ^ height_of us k → w ≡ newest us k a (2 ^ h)
      → tree_in at area h (N.code w) a ≡ tree_of us N h w a
  unfolding tree_of
  tree-from zero a zero q g r e = none_below 0 a
  tree-from (suc h) a zero q g r e = none_below (suc h) a
  tree-from zero a (suc w) q g r e =
      let s = newest-le us k a (2 ^ 0) in
      leaf-in at area (N.code (suc w)) a (called (suc w) (omega arith) (omega arith)) ∙ rw (node-stored 0 a (suc w) q g r (omega arith) e)
  tree-from (suc h) a (suc w) q g r e =
      let s = newest-le us k a (2 ^ suc h) in
      let n = first-nest a (height_of us k) (suc h) q in
      let z = first-root a (height_of us k) r in
      let inside = newest-inside us k a (2 ^ suc h) in
      let l = newest us (suc w) a (2 ^ h) in
      let m = newest us (suc w) (a + 2 ^ h) (2 ^ h) in
      let d = sym (rw (← e) at (inside a (2 ^ h) (omega arith) (omega arith))) in
      let f = sym (rw (← e) at (inside (a + 2 ^ h) (2 ^ h) (omega arith) (omega arith))) in
      inner-in at area h (N.code (suc w)) a (called (suc w) (omega arith) (omega arith))
      ∙ rw (
        node-stored (suc h) a (suc w) q g r (omega arith) e,
        tree-from h a l (omega arith) (grid-left a h g) r d,
        tree-from h (a + 2 ^ h) m (omega arith) (grid-right a h g) (omega (arith, pow_pos h)) f,
      )

  pub tree-in : tree_in at area (height_of us k) (N.code k) 0 ≡ tree_of us N (height_of us k) k 0
  tree-in = elim (lt-or-le 0 k) [
    | inl o ↦
        let H = height_of us k in
        let z = first-root 0 H (pow_pos H) in
        tree-from H 0 k (omega arith) z (pow_pos H) (sym (newest-own us k accepted k o (omega arith)))
    | inr o ↦ let e : k ≡ 0 = omega arith in rw e (none_below (height_of us 0) 0)
  ]
