-- What a line of text means: its step. Each definition is total.
use Rattle.std.specs.Prelude.{ℕ, List, [], ◌∷◌, length, leb, Option, None, Some}
use Rattle.text.specs.Quoted.{text}
use Rattle.text.specs.Text.{pick, same}
use Rattle.parse.specs.declared.Step.{Step}
use Rattle.parse.specs.declared.Step.TheVariants.{Format, Begin, Put, Write, Append, Weave, Publish, Branch, Read, Size, Recent, Stamp, Worst}
use Rattle.fields.specs.Fields.{fields_of, field_number, hex_of}

-- what a line means: its step, if it is not malformed, and, for PUT, the page bytes
pub record Meant : Type 0 where
  pub step : Option Step
  pub bytes : List ℕ

-- a step that has no page bytes, or none
abbrev pub plainly : Option Step → Meant
plainly s = record { step = s; bytes = [] }

-- what a malformed line means
abbrev pub no_step : Meant
no_step = plainly None

-- the step of a word and a number
unfoldable pub one_of : List ℕ → Option ℕ → Option Step
one_of w None = None
one_of w (Some a) =
    pick (same w (text "BEGIN")) (Some (Begin a))
    (pick (same w (text "WEAVE")) (Some (Weave a))
    (pick (same w (text "RECENT")) (Some (Recent a)) None))

-- the step of a word and two numbers
unfoldable pub two_of : List ℕ → Option ℕ → Option ℕ → Option Step
two_of w None b = None
two_of w (Some a) None = None
two_of w (Some a) (Some b) =
    pick (same w (text "APPEND")) (Some (Append a b))
    (pick (same w (text "PUBLISH")) (Some (Publish a b))
    (pick (same w (text "BRANCH")) (Some (Branch a b))
    (pick (same w (text "SIZE")) (Some (Size a b))
    (pick (same w (text "WORST")) (Some (Worst a b)) None))))

-- the step of a word and three numbers
unfoldable pub three_of : List ℕ → Option ℕ → Option ℕ → Option ℕ → Option Step
three_of w None b c = None
three_of w (Some a) None c = None
three_of w (Some a) (Some b) None = None
three_of w (Some a) (Some b) (Some c) =
    pick (same w (text "WRITE")) (Some (Write a b c)) (pick (same w (text "STAMP")) (Some (Stamp a b c)) None)

-- what PUT's two numbers and its page bytes mean
unfoldable pub put_of : Option ℕ → Option ℕ → Option (List ℕ) → Meant
put_of None b h = no_step
put_of (Some a) None h = no_step
put_of (Some a) (Some b) None = no_step
put_of (Some a) (Some b) (Some l) = record { step = Some (Put a b (length l)); bytes = l }

-- what a word and three fields mean: PUT's last are its page bytes, and any other word's are numbers
unfoldable pub put_or_three : List ℕ → List ℕ → List ℕ → List ℕ → Meant
put_or_three w a b c =
    pick (same w (text "PUT")) (put_of (field_number a) (field_number b) (hex_of c))
    (plainly (three_of w (field_number a) (field_number b) (field_number c)))

-- the step of a word and four numbers
unfoldable pub four_of : List ℕ → Option ℕ → Option ℕ → Option ℕ → Option ℕ → Option Step
four_of w None b c d = None
four_of w (Some a) None c d = None
four_of w (Some a) (Some b) None d = None
four_of w (Some a) (Some b) (Some c) None = None
four_of w (Some a) (Some b) (Some c) (Some d) =
    pick (same w (text "FORMAT")) (Some (Format a b c d)) (pick (same w (text "READ")) (Some (Read a b c d)) None)

-- what the fields of a line mean
unfoldable pub meant_by : List (List ℕ) → Meant
meant_by [] = no_step
meant_by (w ∷ []) = no_step
meant_by (w ∷ a ∷ []) = plainly (one_of w (field_number a))
meant_by (w ∷ a ∷ b ∷ []) = plainly (two_of w (field_number a) (field_number b))
meant_by (w ∷ a ∷ b ∷ c ∷ []) = put_or_three w a b c
meant_by (w ∷ a ∷ b ∷ c ∷ d ∷ []) = plainly (four_of w (field_number a) (field_number b) (field_number c) (field_number d))
meant_by (w ∷ a ∷ b ∷ c ∷ d ∷ e ∷ fs) = no_step

-- what a line, without its line feed, means: over 600 bytes it is malformed
unfoldable pub meant_of : List ℕ → Meant
meant_of l = pick (leb (length l) 600) (meant_by (fields_of l)) no_step

-- the step of a line, if it is not malformed
abbrev pub step_of : List ℕ → Option Step
step_of l = (meant_of l).step

-- the page bytes of a line: none but a PUT line has any
abbrev pub bytes_of : List ℕ → List ℕ
bytes_of l = (meant_of l).bytes
