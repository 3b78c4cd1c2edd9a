-- Some bits of a word, of any width: taking them out does not wrap, and the word with others in their place is a word. Assumes nothing.
use mathlib.Core.Path.{◌≡◌, ap, sym, ◌∙◌}
use Prim.Native.Nat.{ℕ, ◌+◌, ◌-◌, ◌*◌, ◌/◌, ◌%◌, ◌^◌, ◌<◌, ◌≤◌}
use native.Mathlib.Nat.{le_trans, mod-le, mod-lt, mod-eq_of_lt, one-mul, mul-le-mul_right, div-mul-le_self, div-add-mod', add-mul}
use native.Mathlib.Omega.{arith}
use lib.Pow.{pow_pos, pow-add, pow-lt, shl_exact}
use Rattle.std.proofs.lemmas.Nat.{div_below, mul-add-lt}

-- Bits in their place are part of the word.
pub bits-within : (w p b : ℕ) → w / p % b * p ≤ w
bits-within w p b = le_trans (mul-le-mul_right p (mod-le (w / p) b)) (div-mul-le_self w p)

-- A word of t * b * p: above the bits t, in their place b, below them p.
with-below : (w t b p x : ℕ) → 0 < p → 0 < b → w < t * b * p → x < b → w - w / p % b * p + x * p < t * b * p
with-below w t b p x some full h k =
    let u = w / p in
    let q = u / b in
    let high : q < t = div_below u b t full (div_below w p (t * b) some h) in
    let front : q * b + x < t * b = omega (arith, mul-add-lt q b x t high k) in
    omega (
      arith,
      mul-add-lt (q * b + x) p (w % p) (t * b) front (mod-lt w some),
      div-add-mod' w p,
      ap (λ (y : ℕ). y * p) (div-add-mod' u b),
      add-mul (q * b) (u % b) p,
      add-mul (q * b) x p,
    )

module _ (n s w k : ℕ) (part : n < 64) (room : s + n ≤ 64) where
  -- n bits from the s-th on, taken out and k's put in their place: as the code shifts them nothing is lost.
  pub shifted : w - w / 2 ^ s % 2 ^ n * 2 ^ s % 2 ^ 64 + k % (1 * 2 ^ n % 2 ^ 64) * 2 ^ s % 2 ^ 64 ≡ w - w / 2 ^ s % 2 ^ n * 2 ^ s + k % 2 ^ n * 2 ^ s
  shifted =
      let one : 1 * 2 ^ n % 2 ^ 64 ≡ 2 ^ n = rw (one-mul) (mod-eq_of_lt (pow-lt part)) in
      rw (one, shl_exact n s 64 (mod-lt (w / 2 ^ s) (pow_pos n)) (omega arith), shl_exact n s 64 (mod-lt k (pow_pos n)) (omega arith))

  -- The word so made is a word.
  pub with-fits : w < 2 ^ 64 → w - w / 2 ^ s % 2 ^ n * 2 ^ s + k % 2 ^ n * 2 ^ s < 2 ^ 64
  with-fits h =
      let t = 64 - s - n in
      let places : t + n + s ≡ 64 = omega arith in
      let whole : 2 ^ t * 2 ^ n * 2 ^ s ≡ 2 ^ 64 = ap (λ (x : ℕ). x * 2 ^ s) (sym (pow-add 2 t n)) ∙ sym (pow-add 2 (t + n) s) ∙ ap (λ (x : ℕ). 2 ^ x) places in
      let low : k % 2 ^ n < 2 ^ n = mod-lt k (pow_pos n) in
      omega (arith, whole, with-below w (2 ^ t) (2 ^ n) (2 ^ s) (k % 2 ^ n) (pow_pos s) (pow_pos n) (omega (arith, whole)) low)

pub ruleset anew = (shifted, with-fits)
