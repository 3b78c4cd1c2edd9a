-- What the test `same` says of two runs of bytes, and how it is read by parts. Assumes nothing.
use mathlib.Core.Path.{◌≡◌, refl, ap, ap₂, sym}
use mathlib.Core.Bool.{true, false, ◌&&◌, and_assoc, and-false, and-eq-true_iff, false≢true}
use mathlib.Core.List.{List, [], ◌∷◌}
use Prim.Native.Nat.{ℕ, zero, suc}
use lib.Dec.{eqb}
use lib.ListN.{length, take, drop}
use borrow.Author.Tests.{eqb-true, eq-eqb}
use Rattle.text.specs.Text.{same}

pub same_true : (a b : List ℕ) → same a b ≡ true → a ≡ b
same_true [] [] e = refl
same_true [] (y ∷ b) e = absurd (false≢true e)
same_true (x ∷ a) [] e = absurd (false≢true e)
same_true (x ∷ a) (y ∷ b) e =
    let m = (and-eq-true_iff (eqb x y) (same a b)).0 e in
    ap₂ (λ (z : ℕ) (c : List ℕ). z ∷ c) (eqb-true x y m.0) (same_true a b m.1)

pub same_refl : (a : List ℕ) → same a a ≡ true
same_refl [] = refl
same_refl (x ∷ a) = rw (eq-eqb x x refl, same_refl a)

pub same-lengths : (a b : List ℕ) → (length a ≡ length b → ⊥) → same a b ≡ false
same-lengths [] [] n = absurd (n refl)
same-lengths [] (y ∷ b) n = refl
same-lengths (x ∷ a) [] n = refl
same-lengths (x ∷ a) (y ∷ b) n = rw (same-lengths a b (λ e. n (ap suc e))) (and-false (eqb x y))

-- The first n bytes, and the rest.
pub same-split : (n : ℕ) (a b : List ℕ) → same a b ≡ (same (take n a) (take n b) && same (drop n a) (drop n b))
same-split zero a b = refl
same-split (suc n) [] [] = refl
same-split (suc n) [] (y ∷ b) = refl
same-split (suc n) (x ∷ a) [] = refl
same-split (suc n) (x ∷ a) (y ∷ b) = rw (same-split n a b) (sym (and_assoc (eqb x y) (same (take n a) (take n b)) (same (drop n a) (drop n b))))
