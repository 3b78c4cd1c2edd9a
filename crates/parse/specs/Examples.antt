-- The document's example, malformed lines, and the cutting of lines, computed.
use Rattle.std.specs.Prelude.{◌≡◌, refl, List, [], ◌∷◌, ◌++◌, map, ℕ, ◌-◌, ◌^◌, replicate, None, Some}
use Rattle.text.specs.Quoted.{text, together}
use Rattle.text.specs.Text.{text_lines}
use Rattle.fields.specs.Fields.{field_number, hex_value}
use Rattle.parse.specs.Steps.{Meant, plainly, no_step, meant_of, put_of, one_of, two_of, three_of, put_or_three, four_of, meant_by}
use Rattle.parse.specs.Cut.{fresh, fed_by, kept_by, unended_in, cut_lines}
use Rattle.parse.specs.declared.Step.{Step}

-- the document's input
abbrev input : List ℕ
input =
    together
    (
    text "FORMAT,16,4,8,2\n" ∷
    text "BEGIN,1\n" ∷
    text "BEGIN,1\n" ∷
    text "PUT,2,0,22222222222222222222222222222222\n" ∷
    text "PUT,1,0,11111111111111111111111111111111\n" ∷
    text "APPEND,0,2\n" ∷
    text "APPEND,0,1\n" ∷
    text "WEAVE,1\n" ∷
    text "PUBLISH,0,0\n" ∷
    text "WEAVE,2\n" ∷
    text "PUBLISH,0,0\n" ∷
    text "READ,0,2,0,0\n" ∷
    text "WEAVE,1\n" ∷
    text "PUBLISH,0,0\n" ∷
    text "READ,0,2,14,4\n" ∷
    text "STAMP,0,2,0\n" ∷
    text "BEGIN,1\n" ∷ []
    )

-- a PUT line of page bytes
abbrev putting : Step → List ℕ → Meant
putting s l = record { step = Some s; bytes = l }

-- the steps that it means
document-lines : map meant_of (text_lines input) ≡
    plainly (Some (Step.Format 16 4 8 2)) ∷
    plainly (Some (Step.Begin 1)) ∷
    plainly (Some (Step.Begin 1)) ∷
    putting (Step.Put 2 0 16) (replicate 16 34) ∷
    putting (Step.Put 1 0 16) (replicate 16 17) ∷
    plainly (Some (Step.Append 0 2)) ∷
    plainly (Some (Step.Append 0 1)) ∷
    plainly (Some (Step.Weave 1)) ∷
    plainly (Some (Step.Publish 0 0)) ∷
    plainly (Some (Step.Weave 2)) ∷
    plainly (Some (Step.Publish 0 0)) ∷
    plainly (Some (Step.Read 0 2 0 0)) ∷
    plainly (Some (Step.Weave 1)) ∷
    plainly (Some (Step.Publish 0 0)) ∷
    plainly (Some (Step.Read 0 2 14 4)) ∷
    plainly (Some (Step.Stamp 0 2 0)) ∷
    plainly (Some (Step.Begin 1)) ∷ []
unfolding meant_of meant_by one_of two_of three_of put_of put_or_three four_of field_number hex_value
document-lines = refl

-- other lines that mean these steps
other-lines :
    (meant_of (text "PUT,2,0,0aff") ≡ putting (Step.Put 2 0 2) (10 ∷ 255 ∷ []))
    × (meant_of (text "PUT,2,0,") ≡ putting (Step.Put 2 0 0) [])
    × (meant_of (text "WRITE,1,3,4") ≡ plainly (Some (Step.Write 1 3 4)))
    × (meant_of (text "BRANCH,1,9") ≡ plainly (Some (Step.Branch 1 9)))
    × (meant_of (text "PUBLISH,15,10080") ≡ plainly (Some (Step.Publish 15 10080)))
    × (meant_of (text "SIZE,1,0") ≡ plainly (Some (Step.Size 1 0)))
    × (meant_of (text "RECENT,15") ≡ plainly (Some (Step.Recent 15)))
    × (meant_of (text "WORST,4096,64") ≡ plainly (Some (Step.Worst 4096 64)))
    × (meant_of (text "BEGIN,18446744073709551615") ≡ plainly (Some (Step.Begin (2 ^ 64 - 1))))
    × (meant_of (text "PUT,1,0," ++ replicate 592 97) ≡ putting (Step.Put 1 0 296) (replicate 296 170))
unfolding meant_of meant_by one_of two_of three_of put_of put_or_three four_of field_number hex_value
other-lines = (refl, refl, refl, refl, refl, refl, refl, refl, refl, refl)

-- a malformed line
abbrev Bad : List ℕ → Type 0
Bad l = meant_of l ≡ no_step

malformed :
    Bad []
    × Bad (text "PUBLISH,0,0" ++ (13 ∷ []))
    × Bad (text "BEGIN,1" ++ (0 ∷ []))
    × Bad (text "BEGIN, 1")
    × Bad (text "BEGIN")
    × Bad (text "BEGIN,")
    × Bad (text "BEGIN,1,2")
    × Bad (text "begin,1")
    × Bad (text "COMMIT,1")
    × Bad (text "BEGIN,01")
    × Bad (text "BEGIN,+1")
    × Bad (text "BEGIN,18446744073709551616")
    × Bad (text "PUT,1,0,abc")
    × Bad (text "PUT,1,0,AB")
    × Bad (text "PUBLISH")
    × Bad (text "PUBLISH,0")
    × Bad (text "PUBLISH,0,")
    × Bad (text "PUBLISH,0,0,0")
    × Bad (text "READ,2,0,0")
    × Bad (text "BRANCH,0")
    × Bad (text "WORST,64")
    × Bad (text "WORST,64,2,0")
    × Bad (text "FORMAT,16,4,8")
    × Bad (text "FORMAT,16,4,8,2,1")
    × Bad (text "PUT,1,0," ++ replicate 594 97)
unfolding meant_of meant_by one_of two_of three_of put_of put_or_three four_of field_number hex_value
malformed = (refl, refl, refl, refl, refl, refl, refl, refl, refl, refl, refl, refl, refl, refl, refl, refl, refl, refl, refl, refl, refl, refl, refl, refl, refl)

-- lines cut with a buffer of four bytes: an empty line, one that fills the buffer, one that is over, and a last one without a line feed
cutting :
    cut_lines (text "ab\n\nabcd\nabcde\nabc") fresh (replicate 4 0)
    ≡ Some (text "ab") ∷ Some [] ∷ Some (text "abcd") ∷ None ∷ Some (text "abc") ∷ []
unfolding fed_by kept_by unended_in
cutting = refl

-- a text that ends in a line feed has no line after it
ending : cut_lines (text "ab\n") fresh (replicate 4 0) ≡ Some (text "ab") ∷ []
unfolding fed_by kept_by unended_in
ending = refl
