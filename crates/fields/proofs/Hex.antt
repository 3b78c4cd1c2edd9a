-- Hexadecimal, two digits at a time. Assumes nothing.
use mathlib.Core.Path.{◌≡◌, refl, ap}
use mathlib.Core.Bool.{Bool, true, false, ◌&&◌, false≢true, and-false}
use mathlib.Core.List.{List, [], ◌∷◌, ◌++◌}
use Prim.Native.Nat.{ℕ, zero, suc, ◌+◌, ◌*◌, ◌%◌, ◌<◌, ◌≤◌}
use native.Mathlib.Numerals.{add-one}
use native.Mathlib.Omega.{arith}
use lib.ListN.{length, get_or, take, drop, set}
use lib.Seq.{take-length}
use lib.Dec.{ltb}
use borrow.Author.Tests.{le-leb, ltb-true}
use Rattle.std.specs.List.{list_all}
use Rattle.text.specs.Buffer.{front}
use Rattle.fields.specs.Fields.{hex_value, is_hex, unhex}

-- whether a byte is such a digit
abbrev pub digit : ℕ → Bool
digit b = ltb (hex_value b) 16

-- bytes are hexadecimal where their count is even and each is a digit
pub hex-even : (f : List ℕ) → length f % 2 ≡ 0 → list_all digit f ≡ is_hex f
hex-even [] h = refl
hex-even (a ∷ []) h = absurd (omega arith)
hex-even (a ∷ b ∷ f) h = let r : length f % 2 ≡ 0 = omega arith in rw (hex-even f r)

pub hex-odd : (f : List ℕ) → (length f % 2 ≡ 0 → ⊥) → false ≡ is_hex f
hex-odd [] h = absurd (h refl)
hex-odd (a ∷ []) h = refl
hex-odd (a ∷ b ∷ f) h = let r : length f % 2 ≡ 0 → ⊥ = λ e. omega arith in rw (← hex-odd f r, and-false, and-false)

both : (x y : Bool) → x && y ≡ true → (x ≡ true) × (y ≡ true)
both true y h = (refl, h)
both false y h = absurd (false≢true h)

-- two digits and what follows them
module _ (a b : ℕ) (f : List ℕ) (h : is_hex (a ∷ b ∷ f) ≡ true) where
  first-good : hex_value a < 16
  first-good = ltb-true (hex_value a) 16 (both (digit a) (digit b && is_hex f) h).0

  second-good : hex_value b < 16
  second-good = ltb-true (hex_value b) 16 (both (digit b) (is_hex f) (both (digit a) (digit b && is_hex f) h).1).0

  rest-good : is_hex f ≡ true
  rest-good = (both (digit b) (is_hex f) (both (digit a) (digit b && is_hex f) h).1).1

-- the bytes of hexadecimal digits are half as many
pub unhex-length : (f : List ℕ) → is_hex f ≡ true → length f ≡ length (unhex f) + length (unhex f)
unhex-length [] h = refl
unhex-length (a ∷ []) h = absurd (false≢true h)
unhex-length (a ∷ b ∷ f) h = omega (arith, unhex-length f (rest-good a b f h))

-- the digits of the byte at index i, and that byte
abbrev Pair : List ℕ → ℕ → Type 0
Pair f i =
    (hex_value (get_or f (2 * i) 0) < 16)
    × (hex_value (get_or f (2 * i + 1) 0) < 16)
    × (get_or (unhex f) i 0 ≡ hex_value (get_or f (2 * i) 0) * 16 + hex_value (get_or f (2 * i + 1) 0))

pair-at : (f : List ℕ) (i : ℕ) → is_hex f ≡ true → 2 * i < length f → Pair f i
pair-at [] i h k = absurd (omega arith)
pair-at (a ∷ []) i h k = absurd (false≢true h)
pair-at (a ∷ b ∷ f) zero h k = (first-good a b f h, second-good a b f h, refl)
pair-at (a ∷ b ∷ f) (suc i) h k =
    let m : 2 * suc i ≡ suc (suc (2 * i)) = omega arith in
    let n : 2 * suc i + 1 ≡ suc (suc (2 * i + 1)) = omega arith in
    rw (n, m) (pair-at f i (rest-good a b f h) (omega arith))

pub high_digit : (f : List ℕ) (i : ℕ) → is_hex f ≡ true → 2 * i < length f → hex_value (get_or f (2 * i) 0) < 16
high_digit f i h k = (pair-at f i h k).0

pub low_digit : (f : List ℕ) (i : ℕ) → is_hex f ≡ true → 2 * i < length f → hex_value (get_or f (2 * i + 1) 0) < 16
low_digit f i h k = (pair-at f i h k).1

pub pair_byte : (f : List ℕ) (i : ℕ) → is_hex f ≡ true → 2 * i < length f
    → get_or (unhex f) i 0 ≡ hex_value (get_or f (2 * i) 0) * 16 + hex_value (get_or f (2 * i + 1) 0)
pair_byte f i h k = (pair-at f i h k).2

-- the byte at index i of u put over b
put-suc : (i x : ℕ) (u b : List ℕ) → i < length u → i < length b → x ≡ get_or u i 0 → set (take i u ++ drop i b) i x ≡ take (suc i) u ++ drop (suc i) b
put-suc i x [] b h k e = absurd (omega arith)
put-suc i x (a ∷ u) [] h k e = absurd (omega arith)
put-suc zero x (a ∷ u) (y ∷ b) h k e = rw e
put-suc (suc i) x (a ∷ u) (y ∷ b) h k e = ap (λ (t : List ℕ). a ∷ t) (put-suc i x u b (omega arith) (omega arith) e)

pub put_next : (i x : ℕ) (u b : List ℕ) → i < length u → i < length b → x ≡ get_or u i 0 → set (take i u ++ drop i b) i x ≡ take (i + 1) u ++ drop (i + 1) b
put_next i x u b h k e = rw add-one (put-suc i x u b h k e)

pub put_whole : (u b : List ℕ) (i : ℕ) → i ≡ length u → length u ≤ length b → take i u ++ drop i b ≡ front u b
unfolding front
put_whole u b i e h = rw (e, le-leb (length u) (length b) h, take-length)

pub ruleset put_hex_steps = (unhex-length, high_digit, low_digit, pair_byte)
