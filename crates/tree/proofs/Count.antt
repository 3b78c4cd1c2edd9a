-- The scope's count is the number of nodes woven.
-- Assumes nothing.
use Rattle.std.proofs.Common.{◌≡◌, ℕ, zero, suc, ◌+◌, ◌-◌, ◌*◌, ◌/◌, ◌^◌, ◌<◌, ◌≤◌, min, max, length, sym, arith, length-append}
use native.Mathlib.Nat.{pow-succ', div-div-eq-div-mul}
use Rattle.tree.specs.Tree.{nodes, count}
use Rattle.tree.proofs.Meets.{within, before, after, side, nodes-before, nodes-after, nodes-leaf, nodes-within}

pub halved : (x h : ℕ) → x / 2 ^ suc h ≡ x / 2 / 2 ^ h
halved x h = rw pow-succ' (sym (div-div-eq-div-mul x 2 (2 ^ h)))

-- The sum from its leaves upwards: the leaves, then the sum for pages and heights halved.
pub count-halves : (f l h : ℕ) → count f l (suc h) ≡ l - f + 1 + count (f / 2) (l / 2) h
unfolding count
count-halves f l zero = omega arith
count-halves f l (suc h) = rw (halved l (suc h), halved f (suc h)) (omega (arith, count-halves f l h))

-- The page x, or the nearest of f .. l + 1. A node's own leaves are those between the two ends of its range, brought into f .. l + 1.
clamp : ℕ → ℕ → ℕ → ℕ
clamp f l x = max f (min x (suc l))

pub length-within : (f l a h : ℕ) → f < a + 2 ^ suc h → a ≤ l → length (nodes f l a (suc h)) ≡ suc (length (nodes f l a h) + length (nodes f l (a + 2 ^ h) h))
length-within f l a h p q = simp (nodes-within, length-append)

module _ (f l : ℕ) (le : f ≤ l) where
  leaf : (a : ℕ) → length (nodes f l a 0) + clamp f l a ≡ clamp f l (a + 1)
  unfolding clamp
  leaf a = elim (side f l a 1) [
    | within p q ↦ rw (nodes-leaf f l a (omega arith) q) (omega arith)
    | before p ↦ rw nodes-before (omega arith)
    | after p ↦ rw nodes-after (omega arith)
  ]

  -- Without its leaves the tree is that of pages and heights halved.
  halve : (a h : ℕ) → length (nodes f l (2 * a) (suc h)) + clamp f l (2 * a) ≡ clamp f l (2 * a + 2 ^ suc h) + length (nodes (f / 2) (l / 2) a h)
  unfolding clamp
  halve a zero = elim (side f l (2 * a) 2) [
    | within p q ↦ rw (length-within f l (2 * a) 0 p q, nodes-leaf (f / 2) (l / 2) a (omega arith) (omega arith)) (omega (arith, leaf (2 * a), rw at-two at (leaf (2 * a + 1))))
    | before p ↦ rw (nodes-before f l (2 * a) 1 p, nodes-before (f / 2) (l / 2) a 0 (omega arith)) (omega arith)
    | after p ↦ rw (nodes-after f l (2 * a) 1 p, nodes-after (f / 2) (l / 2) a 0 (omega arith)) (omega arith)
  ]
    where
      at-two : 2 * a + 1 + 1 ≡ 2 * a + 2
      at-two = omega arith
  halve a (suc h) = elim (side f l (2 * a) (2 ^ suc (suc h))) [
    | within p q ↦ rw (length-within f l (2 * a) (suc h) p q, length-within (f / 2) (l / 2) a h (omega arith) (omega arith)) (omega (arith, halve a h, rw (at-end, at-half) at (halve (a + 2 ^ h) h)))
    | before p ↦ rw (nodes-before f l (2 * a) (suc (suc h)) p, nodes-before (f / 2) (l / 2) a (suc h) (omega arith)) (omega arith)
    | after p ↦ rw (nodes-after f l (2 * a) (suc (suc h)) p, nodes-after (f / 2) (l / 2) a (suc h) (omega arith)) (omega arith)
  ]
    where
      at-half : 2 * (a + 2 ^ h) ≡ 2 * a + 2 ^ suc h
      at-half = omega arith

      at-end : 2 * (a + 2 ^ h) + 2 ^ suc h ≡ 2 * a + 2 ^ suc (suc h)
      at-end = omega arith

pub length-nodes : (f l h : ℕ) → f ≤ l → l < 2 ^ h → length (nodes f l 0 h) ≡ count f l h
unfolding count clamp
length-nodes f l zero p q = omega (arith, leaf f l p 0)
length-nodes f l (suc h) p q = rw (count-halves, ← length-nodes (f / 2) (l / 2) h (omega arith) (omega arith)) (omega (arith, halve f l p 0 h))
