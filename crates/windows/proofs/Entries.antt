-- The window of a line's fields, by how many they are. Assumes nothing.
use Rattle.std.proofs.Common.{None}
use mathlib.Core.Path.{◌≡◌, refl}
use mathlib.Core.List.{List, [], ◌∷◌}
use Prim.Native.Nat.{ℕ}
use native.Mathlib.Omega.{arith}
use lib.ListN.{length, get_or}
use Rattle.fields.specs.Fields.{field_number}
use Rattle.windows.specs.Listed.{entry_of, entry_by}

pub two_fields : (fs : List (List ℕ)) → length fs ≡ 2 → entry_by fs ≡ entry_of (field_number (get_or fs 0 [])) (field_number (get_or fs 1 []))
unfolding entry_by
two_fields [] h = absurd (omega arith)
two_fields (a ∷ []) h = absurd (omega arith)
two_fields (a ∷ b ∷ []) h = refl
two_fields (a ∷ b ∷ c ∷ fs) h = absurd (omega arith)

-- a line of fewer, or of more
pub other_fields : (fs : List (List ℕ)) → (length fs ≡ 2 → ⊥) → entry_by fs ≡ None
unfolding entry_by
other_fields [] h = refl
other_fields (a ∷ []) h = refl
other_fields (a ∷ b ∷ []) h = absurd (h refl)
other_fields (a ∷ b ∷ c ∷ fs) h = refl

pub ruleset entries = (two_fields, other_fields)
