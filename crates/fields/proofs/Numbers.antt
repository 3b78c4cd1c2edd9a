-- A field's number, one digit at a time. Assumes nothing.
use Rattle.std.proofs.Common.{Option, Some, None}
use mathlib.Core.Path.{◌≡◌}
use mathlib.Core.Bool.{◌&&◌, and-false}
use mathlib.Core.List.{List, [], ◌∷◌}
use Prim.Native.Nat.{ℕ, suc, ◌+◌, ◌-◌, ◌*◌, ◌^◌, ◌<◌, ◌≤◌}
use native.Mathlib.Nat.{le_refl, le_trans}
use native.Mathlib.Omega.{arith}
use lib.ListN.{length, get_or, drop}
use lib.Seq.{drop-cons}
use lib.Dec.{ltb}
use borrow.Author.Tests.{le-leb, le-ltb}
use Rattle.text.specs.Text.{pick}
use Rattle.fields.specs.Fields.{all_digits, value_after}

-- the number that digits make after v
abbrev pub finished : ℕ → List ℕ → Option ℕ
finished v f = pick (all_digits f && ltb (value_after v f) (2 ^ 64)) (Some (value_after v f)) None

-- more digits make no less
value_grows : (v : ℕ) (f : List ℕ) → v ≤ value_after v f
value_grows v [] = le_refl v
value_grows v (b ∷ f) = le_trans (omega arith) (value_grows (v * 10 + (b - 48)) f)

past-after : (v : ℕ) (f : List ℕ) → 2 ^ 64 ≤ v → finished v f ≡ None
past-after v f p = rw (le-ltb (value_after v f) (2 ^ 64) (le_trans p (value_grows v f)), and-false)

-- a digit that goes past 64 bits
pub digit_past : (v : ℕ) (f : List ℕ) (i : ℕ) → i < length f → 48 ≤ get_or f i 0 → get_or f i 0 ≤ 57 → 2 ^ 64 ≤ v * 10 + (get_or f i 0 - 48)
    → finished v (drop i f) ≡ None
digit_past v f i h j k p = rw (drop-cons f i 0 h, le-leb 48 (get_or f i 0) j, le-leb (get_or f i 0) 57 k) (past-after _ (drop (suc i) f) p)
