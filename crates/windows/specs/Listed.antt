-- The text of a list of windows: each line is `from,to` and a line feed, its numbers written as in the step program. The empty text is the empty list.
use Rattle.std.specs.Prelude.{◌≡◌, ℕ, Bool, true, false, not, ◌&&◌, List, [], ◌∷◌, leb, eqb, length, Option, Some, None, Result}
use Rattle.text.specs.Text.{pick, line_feed, text_lines}
use Rattle.fields.specs.Fields.{fields_of, field_number}
use Rattle.table.specs.Table.{first_refusal, window_rows}
use Rattle.windows.specs.declared.Window.{Window}
use Rattle.windows.specs.Windows.{inside, inside_some, placed}
use Rattle.table.specs.Refused.{answered}
use Rattle.windows.specs.declared.Windows.{Windows}

-- the window of two numbers, if they are minutes of the week, 0 to 10,079, and differ
unfoldable pub entry_of : Option ℕ → Option ℕ → Option Window
entry_of None b = None
entry_of (Some a) None = None
entry_of (Some a) (Some b) = pick (leb a 10079 && (leb b 10079 && not (eqb a b))) (Some (record { from = a; to = b })) None

-- the window of a line's fields, if they are two
unfoldable pub entry_by : List (List ℕ) → Option Window
entry_by [] = None
entry_by (a ∷ []) = None
entry_by (a ∷ b ∷ []) = entry_of (field_number a) (field_number b)
entry_by (a ∷ b ∷ c ∷ fs) = None

-- the window that a line, without its line feed, is
abbrev pub line_entry : List ℕ → Option Window
line_entry l = entry_by (fields_of l)

-- whether it is one
abbrev pub is_window : Option Window → Bool
is_window None = false
is_window (Some w) = true

-- whether every line is a window
unfoldable pub all_windows : List (List ℕ) → Bool
all_windows [] = true
all_windows (l ∷ ls) = is_window (line_entry l) && all_windows ls

-- whether the last line ends in a line feed: the text has no byte, or its last is one
unfoldable pub ended : List ℕ → Bool
ended [] = true
ended (b ∷ []) = eqb b line_feed
ended (b ∷ c ∷ t) = ended (c ∷ t)

-- whether some line of a text is malformed, out of range or with equal ends
abbrev pub wrong : List ℕ → Bool
wrong t = not (ended t && all_windows (text_lines t))

-- windows with that of a line before them, if it is one
abbrev pub entered : Option Window → List Window → List Window
entered None ws = ws
entered (Some w) ws = w ∷ ws

-- the windows of lines, in order
unfoldable pub windows_in : List (List ℕ) → List Window
windows_in [] = []
windows_in (l ∷ ls) = entered (line_entry l) (windows_in ls)

-- the windows of a text
abbrev pub windows_of : List ℕ → List Window
windows_of t = windows_in (text_lines t)

-- the rows of a text: 23 where a line is wrong, else 24 where there are more than 32
unfoldable pub text_number : List ℕ → ℕ
text_number t = first_refusal (window_rows (wrong t) (length (text_lines t)))

-- a text, read: refused by its number, or its windows
abbrev pub listed_of : List ℕ → Result Windows ℕ
listed_of t = answered (text_number t) (placed (windows_of t))

-- what is owed of `inside`: no window of a text has equal ends, so a minute is inside the windows of a text exactly where it is inside one of them
abbrev pub InsideMeans : Type 0
InsideMeans = (t : List ℕ) (k : ℕ) → inside (windows_of t) k ≡ inside_some (windows_of t) k
