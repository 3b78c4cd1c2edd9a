-- The laws of `below`, and those of `kth` by heights and indices counted down, as the code has them, where Place goes by cases.
-- Assumes nothing.
use Rattle.std.proofs.Common.{◌≡◌, ℕ, zero, suc, ◌+◌, ◌-◌, ◌^◌, ◌<◌, ◌≤◌, min, refl, sub-one, le-ltb, lt-ltb}
use Rattle.tree.specs.Tree.{node, count}
use Rattle.tree.specs.Place.{below, kth}
use Rattle.tree.proofs.Meets.{meets-within, meets-before}

module _ (f l a h : ℕ) where
  pub below-within : f < a + 2 ^ h → a ≤ l → below f l a h ≡ count (f - a) (min (l - a) (2 ^ h - 1)) h
  unfolding below
  below-within p q = rw (meets-within f l a (2 ^ h) p q, below)

  pub below-before : a + 2 ^ h ≤ f → below f l a h ≡ 0
  unfolding below
  below-before p = rw (meets-before f l a (2 ^ h) p, below)

module _ (f l a : ℕ) where
  pub kth-leaf : (h i : ℕ) → h ≡ 0 → node a h ≡ kth f l a h i
  unfolding kth
  kth-leaf h i e = rw e

  pub kth-here : (h i : ℕ) → i ≡ 0 → node a h ≡ kth f l a h i
  unfolding kth
  kth-here zero i e = refl
  kth-here (suc h) i e = rw e

  pub kth-left : (h i : ℕ) → 0 < h → 0 < i → i - 1 < below f l a (h - 1) → kth f l a (h - 1) (i - 1) ≡ kth f l a h i
  unfolding kth
  kth-left zero i p q r = elim p [ ]
  kth-left (suc h) zero p q r = elim q [ ]
  kth-left (suc h) (suc i) p q r = simp sub-one (rw (lt-ltb i (below f l a h) (simp sub-one at r), kth))

  pub kth-right : (h i : ℕ) → 0 < h → 0 < i → below f l a (h - 1) ≤ i - 1
      → kth f l (a + 2 ^ (h - 1)) (h - 1) (i - 1 - below f l a (h - 1)) ≡ kth f l a h i
  unfolding kth
  kth-right zero i p q r = elim p [ ]
  kth-right (suc h) zero p q r = elim q [ ]
  kth-right (suc h) (suc i) p q r = simp sub-one (rw (le-ltb i (below f l a h) (simp sub-one at r), kth))
