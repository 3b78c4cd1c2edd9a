-- The fields of a line of text: numbers, and page bytes in hexadecimal. Each definition is total.
use Rattle.std.specs.Prelude.{ℕ, ◌+◌, ◌-◌, ◌*◌, ◌^◌, Bool, true, false, not, ◌&&◌, List, [], ◌∷◌, leb, ltb, eqb, Option, None, Some}
use Rattle.text.specs.Text.{pick, comma, joined}
use Rattle.text.specs.Buffer.{front}

-- the fields of a line: what stands between its commas
abbrev pub fields_of : List ℕ → List (List ℕ)
fields_of [] = [] ∷ []
fields_of (b ∷ l) = pick (eqb b comma) ([] ∷ fields_of l) (joined b (fields_of l))

-- whether a byte is a decimal digit, 0 (48) to 9 (57)
abbrev pub is_digit : ℕ → Bool
is_digit b = leb 48 b && leb b 57

-- whether all bytes are digits
abbrev pub all_digits : List ℕ → Bool
all_digits [] = true
all_digits (b ∷ f) = is_digit b && all_digits f

-- whether there is a first byte, and it is not a 0 with more after it
abbrev pub starts_plain : List ℕ → Bool
starts_plain [] = false
starts_plain (b ∷ []) = true
starts_plain (b ∷ c ∷ f) = not (eqb b 48)

-- the value of digits that follow the number v
abbrev pub value_after : ℕ → List ℕ → ℕ
value_after v [] = v
value_after v (b ∷ f) = value_after (v * 10 + (b - 48)) f

-- the number that a field is, if it is one: plain digits, no leading zero, in 64 bits
unfoldable pub field_number : List ℕ → Option ℕ
field_number f = pick (starts_plain f && (all_digits f && ltb (value_after 0 f) (2 ^ 64))) (Some (value_after 0 f)) None

-- the value of a lowercase hexadecimal digit, 0 to 9 or a (97) to f (102); 16 where the byte is none
unfoldable pub hex_value : ℕ → ℕ
hex_value b = pick (leb 48 b && leb b 57) (b - 48) (pick (leb 97 b && leb b 102) (b - 87) 16)

-- whether all bytes are such digits, and their count is even
abbrev pub is_hex : List ℕ → Bool
is_hex [] = true
is_hex (a ∷ []) = false
is_hex (a ∷ b ∷ f) = ltb (hex_value a) 16 && (ltb (hex_value b) 16 && is_hex f)

-- the bytes of such digits, two digits a byte
abbrev pub unhex : List ℕ → List ℕ
unhex [] = []
unhex (a ∷ []) = []
unhex (a ∷ b ∷ f) = (hex_value a * 16 + hex_value b) ∷ unhex f

-- the page bytes that a field is, if it is hexadecimal
abbrev pub hex_of : List ℕ → Option (List ℕ)
hex_of f = pick (is_hex f) (Some (unhex f)) None

-- a buffer with the bytes that a field is at its front; as it was where the field is not hexadecimal, or they do not fit
abbrev pub decoded_in : List ℕ → List ℕ → List ℕ
decoded_in f l = pick (is_hex f) (front (unhex f) l) l
