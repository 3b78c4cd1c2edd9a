-- A version's number says its line and its version, each of 16 bits. Assumes nothing.
use mathlib.Core.Path.{◌≡◌, refl}
use Prim.Native.Nat.{ℕ, zero, suc, ◌+◌, ◌*◌, ◌%◌, ◌^◌, ◌<◌}
use native.Mathlib.Omega.{arith}
use Rattle.lines.specs.Lines.{number_of, line_of, version_of}

-- A version is named as the code computes it.
pub by-version : (l v : ℕ) → (v ≡ 0 → ⊥) → l % 65536 * 65536 + v % 65536 ≡ number_of l v
by-version l zero h = absurd (h refl)
by-version l (suc v) h = refl

-- No version has the number 0.
pub number-none : (l : ℕ) → number_of l 0 ≡ 0
number-none l = refl

module _ (l v : ℕ) (line : l < 65536) (some : 0 < v) (low : v < 65536) where
  -- The number of a version of a line within 16 bits is just the two side by side.
  pub number_is : number_of l v ≡ l * 65536 + v
  number_is = omega (arith, by-version l v (omega arith))

  -- So its line can be read off.
  pub number-line : line_of (number_of l v) ≡ l
  number-line = omega (arith, number_is)

  -- And its version.
  pub number-version : version_of (number_of l v) ≡ v
  number-version = omega (arith, number_is)

  -- It is not 0, which stands for no version.
  pub number-some : 0 < number_of l v
  number-some = omega (arith, number_is)

  -- It has 32 bits.
  pub number_fits : number_of l v < 2 ^ 32
  number_fits = omega (arith, number_is)
