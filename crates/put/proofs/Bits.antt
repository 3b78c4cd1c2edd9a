-- A mask of 64 bits: a bit past its end is 0, and adding one there changes nothing. Assumes nothing.
use Rattle.std.proofs.Common.{◌≡◌, ℕ, ◌+◌, ◌-◌, ◌*◌, ◌%◌, ◌/◌, ◌^◌, ◌<◌, ◌≤◌, refl, ap, ◌∙◌, lt_of_lt_of_le, mod-eq_of_lt, arith, pow_mono, pow-add}
use native.Mathlib.Nat.{div-eq_of_lt, add-mul-mod_self_left}
use Rattle.versions.proofs.Bits.{one_shifted}
use Rattle.put.specs.Put.{bit_of, with_bit}

module _ (m i : ℕ) where
  pub bit_past : m < 2 ^ 64 → 64 ≤ i → bit_of m i ≡ 0
  unfolding bit_of
  bit_past h k = rw (div-eq_of_lt (lt_of_lt_of_le h (pow_mono k)))

  pub bit_here : bit_of m i ≡ m / 2 ^ i % 2
  unfolding bit_of
  bit_here = refl

  pub with_past : m < 2 ^ 64 → 64 ≤ i → with_bit m i ≡ m
  unfolding with_bit
  with_past h k =
      let e : i ≡ 64 + (i - 64) = omega arith in
      ap (λ (j : ℕ). (m + 2 ^ j) % 2 ^ 64) e ∙ rw (pow-add 2 64 (i - 64)) (add-mul-mod_self_left m (2 ^ 64) (2 ^ (i - 64)) ∙ mod-eq_of_lt h)

  pub with_here : i < 64 → with_bit m i ≡ (m + 1 * 2 ^ i % 2 ^ 64) % 2 ^ 64
  unfolding with_bit
  with_here h = rw (one_shifted i h)

pub ruleset bits = (bit_past, bit_here, with_past, with_here)
