-- A mask of 64 bits: one bit of it, and that no mask has more than 64 ones. Assumes nothing.
use mathlib.Core.Path.{◌≡◌, sym}
use mathlib.Core.Bool.{false}
use Prim.Native.Nat.{ℕ, ◌-◌, ◌*◌, ◌%◌, ◌^◌, ◌<◌}
use native.Mathlib.Nat.{mod-eq_of_lt, mod-le, one-mul}
use native.Mathlib.Omega.{arith}
use borrow.Author.Tests.{ne_eqb}
use lib.Dec.{eqb}
use lib.Pow.{pow-lt}

-- 1 shifted left by i
pub one_shifted : (i : ℕ) → i < 64 → 1 * 2 ^ i % 2 ^ 64 ≡ 2 ^ i
one_shifted i h = rw (one-mul, mod-eq_of_lt (pow-lt h))

pub never-all : (m i : ℕ) → m < 2 ^ 64 → 64 < i → false ≡ eqb (m % 2 ^ i) (2 ^ i - 1)
never-all m i h k = sym (ne_eqb (m % 2 ^ i) (2 ^ i - 1) (λ e. omega (arith, pow-lt k, mod-le m (2 ^ i))))
