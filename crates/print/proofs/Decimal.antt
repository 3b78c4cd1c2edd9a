-- A number's decimal digits, the last one first. Assumes nothing.
use mathlib.Core.Path.{◌≡◌, sym, ap, ◌∙◌}
use mathlib.Core.List.{List, [], ◌∷◌, ◌++◌}
use Prim.Native.Nat.{ℕ, zero, suc, max, ◌+◌, ◌*◌, ◌/◌, ◌%◌, ◌^◌, ◌<◌, ◌≤◌}
use native.Mathlib.Nat.{lt_of_not-le, div-lt_iff_lt-mul, pow-suc}
use native.Mathlib.Decide.{dec_le}
use native.Mathlib.Omega.{arith}
use lib.ListN.{length, length-append}
use borrow.Author.Tests.{lt-ltb, le-ltb}
use Rattle.print.specs.Print.{digits, decimal}

digits-one : (k n : ℕ) → n < 10 → digits (suc k) n ≡ (48 + n) ∷ []
unfolding digits
digits-one k n h = rw (lt-ltb n 10 h)

digits_more : (k n : ℕ) → 10 ≤ n → digits (suc k) n ≡ digits k (n / 10) ++ ((48 + n % 10) ∷ [])
unfolding digits
digits_more k n h = rw (le-ltb n 10 h)

-- k digits are enough for a number below 10 ^ k
digits-enough : (k n : ℕ) → n < 10 ^ suc k → digits (suc (suc k)) n ≡ digits (suc k) n
digits-enough zero n h = digits-one 1 n h ∙ sym (digits-one 0 n h)
digits-enough (suc k) n h = elim (dec_le 10 n) [
  | no p ↦ let p = lt_of_not-le p in digits-one (suc (suc k)) n p ∙ sym (digits-one (suc k) n p)
  | yes p ↦
      let q : n / 10 < 10 ^ suc k = (div-lt_iff_lt-mul {k = 10} (omega arith)).1 (rw (pow-suc 10 (suc k)) at h) in
      digits_more (suc (suc k)) n p
      ∙ ap (λ (l : List ℕ). l ++ ((48 + n % 10) ∷ [])) (digits-enough k (n / 10) q)
      ∙ sym (digits_more (suc k) n p)
]

length_digits : (k n : ℕ) → length (digits k n) ≤ k
unfolding digits
length_digits zero n = omega arith
length_digits (suc k) n = elim (dec_le 10 n) [
  | no p ↦ rw (digits-one k n (lt_of_not-le p)) (omega arith)
  | yes p ↦ rw (digits_more k n p, length-append) (omega (arith, length_digits k (n / 10)))
]

pub decimal-one : (n : ℕ) → n < 10 → decimal n ≡ (48 + n) ∷ []
unfolding decimal
decimal-one n h = digits-one 19 n h

pub decimal-more : (n : ℕ) → n < 2 ^ 64 → 10 ≤ n → decimal n ≡ decimal (n / 10) ++ ((48 + n % 10) ∷ [])
unfolding decimal
decimal-more n h k =
    digits_more 19 n k ∙ ap (λ (l : List ℕ). l ++ ((48 + n % 10) ∷ [])) (sym (digits-enough 18 (n / 10) (omega arith)))

pub decimal-length : (n : ℕ) → length (decimal n) ≤ 20
unfolding decimal
decimal-length n = length_digits 20 n

pub length-one : (n : ℕ) → n < 10 → length (decimal n) ≡ 1
length-one n h = ap length (decimal-one n h)

pub length_more : (n : ℕ) → n < 2 ^ 64 → 10 ≤ n → length (decimal n) ≡ length (decimal (n / 10)) + 1
length_more n h k = ap length (decimal-more n h k) ∙ length-append (decimal (n / 10)) _

pub length_some : (n : ℕ) → n < 2 ^ 64 → 0 < length (decimal n)
length_some n h = elim (dec_le 10 n) [
  | no p ↦ omega (arith, length-one n (lt_of_not-le p))
  | yes p ↦ omega (arith, length_more n h p)
]

-- a number between two powers of ten; 0 has one digit, as 1 has
pub length_by_power : (k n : ℕ) → n < 2 ^ 64 → 10 ^ k ≤ max n 1 → max n 1 < 10 * 10 ^ k → length (decimal n) ≡ k + 1
length_by_power zero n h low high = length-one n (omega arith)
length_by_power (suc k) n h low high =
    let low : 10 ^ k * 10 ≤ max n 1 = rw (pow-suc 10 k) at low in
    let high : max n 1 < 10 * (10 ^ k * 10) = rw (pow-suc 10 k) at high in
    let more = length_more n h (omega arith) in
    let rest = length_by_power k (n / 10) (omega arith) (omega arith) (omega arith) in
    omega arith
