-- The library's test of two slices of bytes is the test `same`. Assumes nothing.
use Rattle.std.proofs.Common.{◌≡◌, refl, ap, List, [], ◌∷◌, ℕ, eqb, ◌&&◌}
use lib.Pointwise.{pointwise}
use Rattle.text.specs.Text.{same}

pub equal_same : (a b : List ℕ) → pointwise eqb a b ≡ same a b
equal_same [] [] = refl
equal_same [] (y ∷ b) = refl
equal_same (x ∷ a) [] = refl
equal_same (x ∷ a) (y ∷ b) = ap (λ t. eqb x y && t) (equal_same a b)
