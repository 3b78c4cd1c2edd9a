-- An answer line, one number or one byte at a time. Assumes nothing.
use mathlib.Core.Path.{◌≡◌, refl, sym, ap, ◌∙◌}
use mathlib.Core.List.{List, [], ◌∷◌, ◌++◌}
use Prim.Native.Nat.{ℕ, ◌+◌, ◌-◌, ◌/◌, ◌%◌, ◌^◌, ◌<◌, ◌≤◌}
use native.Mathlib.Nat.{lt_of_not-le}
use native.Mathlib.Decide.{dec_le}
use native.Mathlib.Numerals.{add-one}
use native.Mathlib.Omega.{arith}
use lib.ListN.{length, get_or, drop, set, length-append, length-set, drop_of_length-le}
use lib.Seq.{drop-cons}
use Rattle.print.specs.Print.{decimal, numbers_line, hex_digit, hex_text, bytes_line}
use Rattle.text.specs.Buffer.{put_at}
use Rattle.text.proofs.Buffer.{put-nil, put-cons, put-append, put-snoc}
use Rattle.print.proofs.Decimal.{decimal-length, decimal-one, decimal-more, length-one, length_more, length_some}

module _ (ns : List ℕ) (i : ℕ) (h : i < length ns) where
  pub line-turn : numbers_line (drop i ns) ≡ 44 ∷ (decimal (get_or ns i 0) ++ numbers_line (drop (i + 1) ns))
  line-turn = rw (add-one, drop-cons ns i 0 h)

  pub line-turn-length : length (numbers_line (drop i ns)) ≡ 1 + length (decimal (get_or ns i 0)) + length (numbers_line (drop (i + 1) ns))
  line-turn-length = rw (line-turn, length-append) (omega arith)

  -- a comma and a number written, and the rest of the line to come
  pub line-put : (at : ℕ) (out : List ℕ) → at + length (numbers_line (drop i ns)) ≤ length out
      → put_at (at + 1 + length (decimal (get_or ns i 0))) (numbers_line (drop (i + 1) ns)) (put_at (at + 1) (decimal (get_or ns i 0)) (set out at 44)) ≡ put_at at (numbers_line (drop i ns)) out
  line-put at out k =
      let room = line-turn-length in
      put-append (at + 1) (decimal (get_or ns i 0)) (numbers_line (drop (i + 1) ns)) (set out at 44) (simp length-set (omega arith))
      ∙ put-cons at 44 (decimal (get_or ns i 0) ++ numbers_line (drop (i + 1) ns)) out (omega arith)
      ∙ ap (λ (s : List ℕ). put_at at s out) (sym line-turn)

pub line-end : (ns : List ℕ) (i : ℕ) → length ns ≤ i → numbers_line (drop i ns) ≡ 10 ∷ []
line-end ns i h = rw (drop_of_length-le ns h)

-- the last byte
pub put_last : (at x : ℕ) (out : List ℕ) → at < length out → set out at x ≡ put_at at (x ∷ []) out
put_last at x out h = sym (put-nil (at + 1) (set out at x)) ∙ put-cons at x [] out h

-- the last byte of all: the line is whole
pub put-close : (at : ℕ) (s out : List ℕ) → at < length out → s ≡ 10 ∷ [] → set out at 10 ≡ put_at at s out
put-close at s out h e = rw e (put_last at 10 out h)

-- a word that is put, and the rest of the line after it
pub put-line : (w s out after end : List ℕ) (at : ℕ) → at ≡ length w → length w ≤ length out → after ≡ put_at 0 w out → end ≡ put_at at s after
    → end ≡ put_at 0 (w ++ s) out
put-line w s out after end at e h f g =
    let join = put-append 0 w s out (omega arith) in
    let begin : 0 + length w ≡ at = omega arith in
    g ∙ rw (f, ← begin) join

-- bytes in hexadecimal
hex-length : (l : List ℕ) → length (hex_text l) ≡ length l + length l
hex-length [] = refl
hex-length (b ∷ l) = omega (arith, hex-length l)

pub bytes-length : (l : List ℕ) → length (bytes_line l) ≡ 7 + (length l + length l)
unfolding bytes_line
bytes-length l = simp length-append (omega (arith, hex-length l))

-- what is left of a line of bytes, from index i on
abbrev pub hex_line : List ℕ → List ℕ
hex_line l = hex_text l ++ (10 ∷ [])

pub hex_line-length : (l : List ℕ) → length (hex_line l) ≡ length l + length l + 1
hex_line-length l = simp length-append (omega (arith, hex-length l))

module _ (l : List ℕ) (i : ℕ) (h : i < length l) (x y : ℕ) (ex : x ≡ hex_digit (get_or l i 0 / 16)) (ey : y ≡ hex_digit (get_or l i 0 % 16)) where
  hex-turn : x ∷ y ∷ hex_line (drop (i + 1) l) ≡ hex_line (drop i l)
  hex-turn = rw (ex, ey, add-one, drop-cons l i 0 h)

  pub hex-put : (at : ℕ) (out : List ℕ) → at + 1 < length out
      → put_at (at + 2) (hex_line (drop (i + 1) l)) (set (set out at x) (at + 1) y) ≡ put_at at (hex_line (drop i l)) out
  hex-put at out k =
      let n : at + 2 ≡ at + 1 + 1 = omega arith in
      rw n (put-cons (at + 1) y (hex_line (drop (i + 1) l)) (set out at x) (simp length-set (omega arith)))
      ∙ put-cons at x (y ∷ hex_line (drop (i + 1) l)) out (omega arith)
      ∙ ap (λ (s : List ℕ). put_at at s out) hex-turn

pub hex-close : (l : List ℕ) (i : ℕ) → length l ≤ i → hex_line (drop i l) ≡ 10 ∷ []
hex-close l i h = rw (drop_of_length-le l h)

-- a number, its last digit first: i is the place of that digit
module _ (at n i x : ℕ) (out : List ℕ) (place : i + 1 ≡ at + length (decimal n)) (room : i < length out) where
  pub digit-put : n < 2 ^ 64 → 10 ≤ n → x ≡ 48 + n % 10 → put_at at (decimal (n / 10)) (set out i x) ≡ put_at at (decimal n) out
  digit-put h k e =
      let p : i ≡ at + length (decimal (n / 10)) = omega (arith, length_more n h k) in
      rw (p, e, decimal-more n h k) (put-snoc at (48 + n % 10) (decimal (n / 10)) out (omega arith))

  pub digit-last : n < 10 → x ≡ 48 + n → set out i x ≡ put_at at (decimal n) out
  digit-last h e =
      let p : i ≡ at = omega (arith, length-one n h) in
      rw (p, e, decimal-one n h) (put_last at (48 + n) out (omega arith))

-- digits of a number n at index `at` of a buffer, where those from index i on are put and `rest` is what is left of n
pub record Left (at n : ℕ) (was : List ℕ) (rest i : ℕ) (out : List ℕ) : Type 0 where
  pub above : at ≤ i
  pub more : at < i → (i ≡ at + length (decimal rest)) × (put_at at (decimal rest) out ≡ put_at at (decimal n) was)
  pub done : i ≡ at → out ≡ put_at at (decimal n) was

pub left_all : (at n : ℕ) (was : List ℕ) (i : ℕ) → n < 2 ^ 64 → i ≡ at + length (decimal n) → Left at n was n i was
left_all at n was i h e = record { above = omega arith; more = λ _. (e, refl); done = λ z. absurd (omega (arith, length_some n h)) }

module _ {at n : ℕ} {was : List ℕ} {rest i : ℕ} {out : List ℕ} (l : Left at n was rest i out) (h : rest < 2 ^ 64) (k : at < i) (room : i ≤ length out) (x : ℕ) (e : x ≡ 48 + rest % 10) where
  here : i - 1 + 1 ≡ at + length (decimal rest)
  here = let p = (l.more k).0 in omega arith

  pub left_more : Left at n was (rest / 10) (i - 1) (set out (i - 1) x)
  left_more = elim (dec_le 10 rest) [
    | yes p ↦
        let q = length_more rest h p in
        let some = length_some (rest / 10) (omega arith) in
        record {
          above = omega arith;
          more = λ _. (omega (arith, here), digit-put at rest (i - 1) x out here (omega arith) h p e ∙ (l.more k).1);
          done = λ z. absurd (omega (arith, here));
        }
    | no p ↦
        let p = lt_of_not-le p in
        let q = length-one rest p in
        record {
          above = omega arith;
          more = λ j. absurd (omega (arith, here));
          done = λ _. digit-last at rest (i - 1) x out here (omega arith) p (omega arith) ∙ (l.more k).1;
        }
  ]

pub ruleset line_steps = (decimal-length, line-turn-length)
