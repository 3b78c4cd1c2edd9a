-- The descents with counts find what stands in the weaving order: the node at an index, and the index of a node.
-- Assumes nothing.
use Rattle.std.proofs.Common.{◌≡◌, ℕ, zero, suc, ◌+◌, ◌-◌, ◌^◌, ◌<◌, ◌≤◌, length, sym, ◌∙◌, inl, inr, arith, le-ltb, lt-ltb}
use Rattle.tree.specs.Tree.{Node, node, nodes}
use Rattle.tree.specs.Place.{below, kth, first, index}
use Rattle.tree.proofs.At.{At, here, there, at_left, at_right, at-get_or, at_lt}
use Rattle.tree.proofs.Meets.{lt-or-le, within, before, after, side, nodes-before, nodes-after, nodes-leaf, nodes-within}
use Rattle.tree.proofs.Below.{length-below}
use Rattle.tree.proofs.Count.{length-within}
use Rattle.tree.proofs.First.{first-root, first-left, first-right, first-nest}

module _ (f l : ℕ) (le : f ≤ l) where
  -- The left half's nodes, then the right half's.
  in_left : (a h i : ℕ) (x : Node) → f < a + 2 ^ suc h → a ≤ l → At (nodes f l a h) i x → At (nodes f l a (suc h)) (suc i) x
  in_left a h i x p q r = rw nodes-within (there (at_left (nodes f l (a + 2 ^ h) h) r))

  in_right : (a h i : ℕ) (x : Node) → f < a + 2 ^ suc h → a ≤ l → At (nodes f l (a + 2 ^ h) h) i x → At (nodes f l a (suc h)) (suc (below f l a h + i)) x
  in_right a h i x p q r = rw (nodes-within, ← length-below f l a h le) (there (at_right (nodes f l a h) r))

  -- A node that has nodes meets f .. l.
  pub met : (a h : ℕ) → 0 < length (nodes f l a h) → (f < a + 2 ^ h) × (a ≤ l)
  met a h p = elim (side f l a (2 ^ h)) [
    | within q r ↦ (q, r)
    | before q ↦ omega (arith, rw (nodes-before f l a h q) at p)
    | after q ↦ omega (arith, rw (nodes-after f l a h q) at p)
  ]

  pub kth-at : (a h i : ℕ) → i < length (nodes f l a h) → At (nodes f l a h) i (kth f l a h i)
  unfolding kth
  kth-at a zero zero q = let m = met a 0 q in rw (nodes-leaf f l a (omega arith) m.1) here
  kth-at a zero (suc i) q = let m = met a 0 (omega arith) in absurd (omega (arith, rw (nodes-leaf f l a (omega arith) m.1) at q))
  kth-at a (suc h) zero q = let m = met a (suc h) q in rw (nodes-within f l a h m.0 m.1) here
  kth-at a (suc h) (suc i) q =
      let m = met a (suc h) (omega arith) in
      let s = rw (length-within f l a h m.0 m.1, length-below f l a h le) at q in
      elim (lt-or-le i (below f l a h)) [
        | inl p ↦ rw (lt-ltb i (below f l a h) p, kth) (in_left a h i _ m.0 m.1 (kth-at a h i (rw (length-below f l a h le) p)))
        | inr p ↦
            let e : below f l a h + (i - below f l a h) ≡ i = omega arith in
            rw (le-ltb i (below f l a h) p, kth) (rw e at (in_right a h (i - below f l a h) _ m.0 m.1 (kth-at (a + 2 ^ h) h (i - below f l a h) (omega arith))))
      ]

  -- The node of height j over page p, where it meets f .. l, stands at its index.
  pub index_at : (a h p j : ℕ) → a ≡ first p h → j ≤ h → f < first p j + 2 ^ j → first p j ≤ l → At (nodes f l a h) (index f l a h p j) (node (first p j) j)
  unfolding index
  index_at a zero p zero e k q r = rw (← e, nodes-leaf f l a (omega arith) (omega arith)) here
  index_at a zero p (suc j) e k q r = absurd (omega arith)
  index_at a (suc h) p j e k q r =
      let n = first-nest p (suc h) j k in
      elim (lt-or-le h j) [
        | inl s ↦ let j≡ : j ≡ suc h = omega arith in rw (lt-ltb h j s, index, j≡, ← e, nodes-within f l a h (omega arith) (omega arith)) here
        | inr s ↦ elim (lt-or-le p (a + 2 ^ h)) [
          | inl t ↦
              rw (le-ltb h j s, lt-ltb p (a + 2 ^ h) t, index)
              (in_left a h _ _ (omega arith) (omega arith) (index_at a h p j (omega (arith, first-left p h (omega arith))) s q r))
          | inr t ↦
              rw (le-ltb h j s, le-ltb p (a + 2 ^ h) t, index)
              (in_right a h _ _ (omega arith) (omega arith) (index_at (a + 2 ^ h) h p j (omega (arith, first-right p h (omega arith))) s q r))
        ]
      ]

  -- The two descents undo one another.
  pub kth-index : (h p j : ℕ) → p < 2 ^ h → j ≤ h → f < first p j + 2 ^ j → first p j ≤ l → kth f l 0 h (index f l 0 h p j) ≡ node (first p j) j
  kth-index h p j s k q r =
      let i = index_at 0 h p j (sym (first-root p h s)) k q r in
      sym (at-get_or (node 0 0) (kth-at 0 h (index f l 0 h p j) (at_lt i))) ∙ at-get_or (node 0 0) i
