-- Different numbers below k are at most k.
-- Assumes nothing.
use mathlib.Core.Path.{◌≡◌, refl}
use mathlib.Core.Logic.{◌⊎◌, inl, inr}
use mathlib.Core.Bool.{Bool, true, false}
use Prim.Native.Nat.{ℕ, zero, suc, ◌≤◌, ◌<◌}
use native.Mathlib.Omega.{arith}
use borrow.Author.Tests.{eqb-true, eqb-false}
use lib.Dec.{eqb}
use Rattle.model.specs.OnModel.{either}

abbrev pub Different : ℕ → (ℕ → ℕ) → Type 0
Different n g = (i j : ℕ) → i < n → j < n → g i ≡ g j → i ≡ j

module _ (n k : ℕ) (g : ℕ → ℕ) where
  -- The numbers, but g n in the place of k.
  moved : ℕ → ℕ
  moved i = either (eqb (g i) k) (g n) (g i)

  moved-cases : (i : ℕ) → ((g i ≡ k) × (moved i ≡ g n)) ⊎ ((g i ≡ k → ⊥) × (moved i ≡ g i))
  unfolding moved
  moved-cases i = go (eqb (g i) k) refl
    where
      go : (b : Bool) → eqb (g i) k ≡ b → ((g i ≡ k) × (either b (g n) (g i) ≡ g n)) ⊎ ((g i ≡ k → ⊥) × (either b (g n) (g i) ≡ g i))
      go true e = inl (eqb-true (g i) k e, refl)
      go false e = inr (eqb-false (g i) k e, refl)

  module _ (d : Different (suc n) g) (low : (i : ℕ) → i < suc n → g i < suc k) where
    moved-low : (i : ℕ) → i < n → moved i < k
    moved-low i h = elim (moved-cases i) [
      | inl c ↦ let ne : (g n ≡ k → ⊥) = λ e. omega (arith, d i n (omega arith) (omega arith) (omega arith)) in omega (arith, low n (omega arith))
      | inr c ↦ let ne : (g i ≡ k → ⊥) = c.0 in omega (arith, low i (omega arith))
    ]

    moved-different : Different n moved
    moved-different i j hi hj e = elim (moved-cases i) [
      | inl a ↦ elim (moved-cases j) [ inl b ↦ d i j (omega arith) (omega arith) (omega arith) | inr b ↦ absurd (omega (arith, d n j (omega arith) (omega arith) (omega arith))) ]
      | inr a ↦ elim (moved-cases j) [ inl b ↦ absurd (omega (arith, d i n (omega arith) (omega arith) (omega arith))) | inr b ↦ d i j (omega arith) (omega arith) (omega arith) ]
    ]

pub pigeons : (n k : ℕ) (g : ℕ → ℕ) → Different n g → ((i : ℕ) → i < n → g i < k) → n ≤ k
pigeons zero k g d low = omega arith
pigeons (suc n) zero g d low = absurd (omega (arith, low 0 (omega arith)))
pigeons (suc n) (suc k) g d low = omega (arith, pigeons n k (moved n k g) (moved-different n k g d low) (moved-low n k g d low))
