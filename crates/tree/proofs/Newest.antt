-- The newest version whose update meets a node: what it is, and that it is found again from the newest over any node around it.
-- Assumes nothing.
use Rattle.std.proofs.Common.{◌≡◌, ℕ, zero, suc, ◌+◌, ◌<◌, ◌≤◌, ◌⊎◌, List, refl, inl, inr, eq-or-lt_of_le, arith}
use Rattle.tree.specs.Tree.{Update, update, newest}
use Rattle.tree.proofs.Meets.{Side, within, before, after, side, meets-within, meets-before, meets-after}

module _ (us : List Update) where
  module _ (k a s : ℕ) where
    pub newest-within : (update us (suc k)).f < a + s → a ≤ (update us (suc k)).last → newest us (suc k) a s ≡ suc k
    unfolding newest
    newest-within p q = rw (meets-within (update us (suc k)).f (update us (suc k)).last a s p q, newest)

    pub newest-before : a + s ≤ (update us (suc k)).f → newest us (suc k) a s ≡ newest us k a s
    unfolding newest
    newest-before p = rw (meets-before (update us (suc k)).f (update us (suc k)).last a s p, newest)

    pub newest-after : (update us (suc k)).last < a → newest us (suc k) a s ≡ newest us k a s
    unfolding newest
    newest-after p = rw (meets-after (update us (suc k)).f (update us (suc k)).last a s p, newest)

    pub sides : Side (update us (suc k)).f (update us (suc k)).last a s
    sides = side (update us (suc k)).f (update us (suc k)).last a s

  pub newest-le : (k a s : ℕ) → newest us k a s ≤ k
  unfolding newest
  newest-le zero a s = omega arith
  newest-le (suc k) a s = elim (sides k a s) [
    | within p q ↦ rw newest-within (omega arith)
    | before p ↦ rw newest-before (omega (arith, newest-le k a s))
    | after p ↦ rw newest-after (omega (arith, newest-le k a s))
  ]

  -- The newest meets the node, and the version after it, up to k, does not.
  pub newest-meets : (k a s : ℕ) → 0 < newest us k a s → ((update us (newest us k a s)).f < a + s) × (a ≤ (update us (newest us k a s)).last)
  unfolding newest
  newest-meets zero a s p = omega arith
  newest-meets (suc k) a s p = elim (sides k a s) [
    | within q r ↦ rw newest-within (q, r)
    | before q ↦ rw newest-before (newest-meets k a s (rw newest-before at p))
    | after q ↦ rw newest-after (newest-meets k a s (rw newest-after at p))
  ]

  pub newest-next : (k a s : ℕ) → newest us k a s < k → (a + s ≤ (update us (suc (newest us k a s))).f) ⊎ ((update us (suc (newest us k a s))).last < a)
  newest-next zero a s p = absurd (omega arith)
  newest-next (suc k) a s p = elim (sides k a s) [
    | within q r ↦ absurd (omega (arith, rw (newest-within k a s q r) at p))
    | before q ↦ rw newest-before (elim (eq-or-lt_of_le (newest-le k a s)) [ inl e ↦ rw e (inl q) | inr r ↦ newest-next k a s r ])
    | after q ↦ rw newest-after (elim (eq-or-lt_of_le (newest-le k a s)) [ inl e ↦ rw e (inr q) | inr r ↦ newest-next k a s r ])
  ]

  -- A node inside another: the newest over the inner one is the newest up to the newest over the outer one.
  pub newest-inside : (k a s b t : ℕ) → a ≤ b → b + t ≤ a + s → newest us k b t ≡ newest us (newest us k a s) b t
  unfolding newest
  newest-inside zero a s b t p q = refl
  newest-inside (suc k) a s b t p q = elim (sides k a s) [
    | within r q' ↦ rw (newest-within k a s r q')
    | before r ↦ rw (newest-before k a s r, newest-before k b t (omega arith)) (newest-inside k a s b t p q)
    | after r ↦ rw (newest-after k a s r, newest-after k b t (omega arith)) (newest-inside k a s b t p q)
  ]
