-- What a line means, by the number of its fields. Assumes nothing.
use mathlib.Core.Path.{◌≡◌, refl, ◌∙◌}
use mathlib.Core.List.{List, [], ◌∷◌}
use Prim.Native.Nat.{ℕ, ◌<◌, ◌≤◌}
use native.Mathlib.Omega.{arith}
use lib.ListN.{length, get_or}
use borrow.Author.Tests.{le-leb, lt-leb}
use Rattle.fields.specs.Fields.{fields_of, field_number}
use Rattle.parse.specs.Steps.{plainly, no_step, one_of, two_of, put_or_three, four_of, meant_by, meant_of}
use Rattle.fields.proofs.Hex.{unhex-length}
use Rattle.text.proofs.Buffer.{front-none}

-- a line that has no page bytes leaves the buffer, and page bytes are half as many as their digits
pub ruleset puts = (front-none, unhex-length)

-- a line over 600 bytes, and one that is not
pub meant-long : (l : List ℕ) → 600 < length l → meant_of l ≡ no_step
unfolding meant_of
meant-long l h = rw (lt-leb (length l) 600 h)

meant-short : (l : List ℕ) → length l ≤ 600 → meant_of l ≡ meant_by (fields_of l)
unfolding meant_of
meant-short l h = rw (le-leb (length l) 600 h)

-- what n fields mean
two_fields : (fs : List (List ℕ)) → length fs ≡ 2 → meant_by fs ≡ plainly (one_of (get_or fs 0 []) (field_number (get_or fs 1 [])))
unfolding meant_by
two_fields [] h = let z : ⊥ = omega arith in elim z [ ]
two_fields (w ∷ []) h = let z : ⊥ = omega arith in elim z [ ]
two_fields (w ∷ a ∷ []) h = refl
two_fields (w ∷ a ∷ e ∷ fs) h = let z : ⊥ = omega arith in elim z [ ]

three-fields : (fs : List (List ℕ)) → length fs ≡ 3 → meant_by fs ≡ plainly (two_of (get_or fs 0 []) (field_number (get_or fs 1 [])) (field_number (get_or fs 2 [])))
unfolding meant_by
three-fields [] h = let z : ⊥ = omega arith in elim z [ ]
three-fields (w ∷ []) h = let z : ⊥ = omega arith in elim z [ ]
three-fields (w ∷ a ∷ []) h = let z : ⊥ = omega arith in elim z [ ]
three-fields (w ∷ a ∷ b ∷ []) h = refl
three-fields (w ∷ a ∷ b ∷ e ∷ fs) h = let z : ⊥ = omega arith in elim z [ ]

four-fields : (fs : List (List ℕ)) → length fs ≡ 4 → meant_by fs ≡ put_or_three (get_or fs 0 []) (get_or fs 1 []) (get_or fs 2 []) (get_or fs 3 [])
unfolding meant_by
four-fields [] h = let z : ⊥ = omega arith in elim z [ ]
four-fields (w ∷ []) h = let z : ⊥ = omega arith in elim z [ ]
four-fields (w ∷ a ∷ []) h = let z : ⊥ = omega arith in elim z [ ]
four-fields (w ∷ a ∷ b ∷ []) h = let z : ⊥ = omega arith in elim z [ ]
four-fields (w ∷ a ∷ b ∷ c ∷ []) h = refl
four-fields (w ∷ a ∷ b ∷ c ∷ e ∷ fs) h = let z : ⊥ = omega arith in elim z [ ]

five-fields : (fs : List (List ℕ)) → length fs ≡ 5 → meant_by fs ≡ plainly (four_of (get_or fs 0 []) (field_number (get_or fs 1 [])) (field_number (get_or fs 2 [])) (field_number (get_or fs 3 [])) (field_number (get_or fs 4 [])))
unfolding meant_by
five-fields [] h = let z : ⊥ = omega arith in elim z [ ]
five-fields (w ∷ []) h = let z : ⊥ = omega arith in elim z [ ]
five-fields (w ∷ a ∷ []) h = let z : ⊥ = omega arith in elim z [ ]
five-fields (w ∷ a ∷ b ∷ []) h = let z : ⊥ = omega arith in elim z [ ]
five-fields (w ∷ a ∷ b ∷ c ∷ []) h = let z : ⊥ = omega arith in elim z [ ]
five-fields (w ∷ a ∷ b ∷ c ∷ d ∷ []) h = refl
five-fields (w ∷ a ∷ b ∷ c ∷ d ∷ e ∷ fs) h = let z : ⊥ = omega arith in elim z [ ]

other-fields : (fs : List (List ℕ)) → (length fs ≡ 2 → ⊥) → (length fs ≡ 3 → ⊥) → (length fs ≡ 4 → ⊥) → (length fs ≡ 5 → ⊥) → meant_by fs ≡ no_step
unfolding meant_by
other-fields [] h2 h3 h4 h5 = refl
other-fields (w ∷ []) h2 h3 h4 h5 = refl
other-fields (w ∷ a ∷ []) h2 h3 h4 h5 = elim (h2 refl) [ ]
other-fields (w ∷ a ∷ b ∷ []) h2 h3 h4 h5 = elim (h3 refl) [ ]
other-fields (w ∷ a ∷ b ∷ c ∷ []) h2 h3 h4 h5 = elim (h4 refl) [ ]
other-fields (w ∷ a ∷ b ∷ c ∷ d ∷ []) h2 h3 h4 h5 = elim (h5 refl) [ ]
other-fields (w ∷ a ∷ b ∷ c ∷ d ∷ e ∷ fs) h2 h3 h4 h5 = refl

-- the same of a line; field k of it is `at k`
module _ (l : List ℕ) (short : length l ≤ 600) where
  abbrev at : ℕ → List ℕ
  at k = get_or (fields_of l) k []

  pub means-two : length (fields_of l) ≡ 2 → meant_of l ≡ plainly (one_of (at 0) (field_number (at 1)))
  means-two h = meant-short l short ∙ two_fields (fields_of l) h

  pub means-three : length (fields_of l) ≡ 3 → meant_of l ≡ plainly (two_of (at 0) (field_number (at 1)) (field_number (at 2)))
  means-three h = meant-short l short ∙ three-fields (fields_of l) h

  pub means-four : length (fields_of l) ≡ 4 → meant_of l ≡ put_or_three (at 0) (at 1) (at 2) (at 3)
  means-four h = meant-short l short ∙ four-fields (fields_of l) h

  pub means-five : length (fields_of l) ≡ 5 → meant_of l ≡ plainly (four_of (at 0) (field_number (at 1)) (field_number (at 2)) (field_number (at 3)) (field_number (at 4)))
  means-five h = meant-short l short ∙ five-fields (fields_of l) h

  pub means-none : (length (fields_of l) ≡ 2 → ⊥) → (length (fields_of l) ≡ 3 → ⊥) → (length (fields_of l) ≡ 4 → ⊥) → (length (fields_of l) ≡ 5 → ⊥) → meant_of l ≡ no_step
  means-none h2 h3 h4 h5 = meant-short l short ∙ other-fields (fields_of l) h2 h3 h4 h5

-- what a line means, and that most lines leave the buffer
pub ruleset means = (front-none, meant-long, means-two, means-three, means-four, means-five, means-none)
