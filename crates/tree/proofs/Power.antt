-- The test for a power of two: it shares no bit with the number below it, and of the numbers above 0 no other does.
-- Assumes nothing.
use Rattle.std.proofs.Common.{◌≡◌, ℕ, zero, suc, ◌-◌, ◌/◌, ◌%◌, ◌^◌, ◌<◌, ◌≤◌, inl, inr, one-mul, arith}
use lib.Bits.{bit_and, and_step, and_self, and_shifted}
use lib.Pow.{ones_lt}
use Rattle.tree.proofs.Meets.{lt-or-le}

pub power-shares-none : (h : ℕ) → bit_and (2 ^ h) (2 ^ h - 1) ≡ 0
power-shares-none h = rw (one-mul (2 ^ h)) at (and_shifted 1 h (2 ^ h - 1) (ones_lt h))

-- An odd number is 1 above twice its half, so that it shares all of that half's bits; an even one shares as many as its half does.
pub shares-none-power : (d x : ℕ) → 0 < x → x ≤ d → bit_and x (x - 1) ≡ 0 → (h : ℕ) × (x ≡ 2 ^ h)
shares-none-power zero x p q e = absurd (omega arith)
shares-none-power (suc d) x p q e = elim (lt-or-le 0 (x % 2)) [
  | inl odd ↦
      let same : (x - 1) / 2 ≡ x / 2 = omega arith in
      let s = rw (same, and_self (x / 2)) at (and_step x (x - 1)) in
      (0, omega arith)
  | inr even ↦
      let down : (x - 1) / 2 ≡ x / 2 - 1 = omega arith in
      let s = rw down at (and_step x (x - 1)) in
      let t = shares-none-power d (x / 2) (omega arith) (omega arith) (omega arith) in
      (suc t.0, omega (arith, t.1))
]
