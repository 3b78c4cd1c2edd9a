-- Cutting a text into lines, byte by byte, with a buffer for one line; and what the lines of a text are.
use Rattle.std.specs.Prelude.{◌≡◌, ℕ, ◌+◌, Bool, true, not, List, [], ◌∷◌, map, length, take, set, leb, ltb, eqb, Option, None, Some}
use Rattle.text.specs.Text.{pick, line_feed, text_lines}
use Rattle.parse.specs.Steps.{Meant, no_step, meant_of}
use Rattle.parse.specs.declared.Cutter.{Cutter}

-- ---- one byte

-- the cutter with this many bytes of the line kept, and that of a line that is over
abbrev pub keeping : ℕ → Cutter
keeping n = record { kept = Some n }

abbrev pub over : Cutter
over = record { kept = None }

-- the cutter at the start of a line
abbrev pub fresh : Cutter
fresh = keeping 0

-- one more byte of a line of which n are kept, or that is over, with a buffer of room bytes: the byte is kept, or the line is over
abbrev pub grown : Option ℕ → ℕ → Cutter
grown None room = over
grown (Some n) room = pick (ltb n room) (keeping (n + 1)) over

-- the cutter after a byte: a line feed ends the line that it holds, any other byte goes on with it
unfoldable pub fed_by : Cutter → ℕ → ℕ → Cutter
fed_by c room b = pick (eqb b line_feed) c (grown c.kept room)

-- the buffer with a byte after those that are kept, where there is room
abbrev pub stored : Option ℕ → ℕ → List ℕ → List ℕ
stored None b l = l
stored (Some n) b l = set l n b

-- the buffer after a byte
unfoldable pub kept_by : Cutter → ℕ → List ℕ → List ℕ
kept_by c b l = pick (eqb b line_feed) l (stored c.kept b l)

-- at the end of the text: whether a last line without a line feed stands in the buffer
abbrev pub some_kept : Option ℕ → Bool
some_kept None = true
some_kept (Some n) = not (eqb n 0)

unfoldable pub unended_in : Cutter → Bool
unended_in c = some_kept c.kept

-- the line that the cutter holds in its buffer: its bytes, or none where it is over
abbrev pub taken : Option ℕ → List ℕ → Option (List ℕ)
taken None l = None
taken (Some n) l = Some (take n l)

abbrev pub held : Cutter → List ℕ → Option (List ℕ)
held c l = taken c.kept l

-- what a line that was handed out means: one that is over is malformed
abbrev pub meant_handed : Option (List ℕ) → Meant
meant_handed None = no_step
meant_handed (Some l) = meant_of l

-- what the line that the cutter holds means
unfoldable pub cut_meant : Cutter → List ℕ → Meant
cut_meant c l = meant_handed (held c l)

-- ---- a whole text

-- a line as it is handed out with a buffer of room bytes: its bytes, or none where it is over
abbrev pub handed : ℕ → List ℕ → Option (List ℕ)
handed room l = pick (leb (length l) room) (Some l) None

-- the lines that feeding a text hands out, from a cutter and a buffer on: a line feed hands out the line that is held, and the next begins with a fresh cutter
abbrev pub cut_lines : List ℕ → Cutter → List ℕ → List (Option (List ℕ))
cut_lines [] c l = pick (unended_in c) (held c l ∷ []) []
cut_lines (b ∷ t) c l =
    pick (eqb b line_feed)
    (held c l ∷ cut_lines t fresh (kept_by c b l))
    (cut_lines t (fed_by c (length l) b) (kept_by c b l))

-- what is owed of the cutting: with a buffer of 600 bytes the lines that are handed out mean what the text's lines mean
abbrev pub CutMeans : Type 0
CutMeans = (t l : List ℕ) → length l ≡ 600 → map meant_handed (cut_lines t fresh l) ≡ map meant_of (text_lines t)
