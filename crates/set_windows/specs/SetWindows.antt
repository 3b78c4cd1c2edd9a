-- SETWINDOWS text: what it answers and leaves, over any store, windows and areas.
use Rattle.std.specs.Prelude.{List, ℕ, length, Result}
use Rattle.text.specs.Text.{text_lines}
use Rattle.table.specs.Table.{never, every_call, first_refusal, unless, window_rows}
use Rattle.windows.specs.declared.Windows.{Windows}
use Rattle.windows.specs.Windows.{placed}
use Rattle.windows.specs.Listed.{wrong, windows_of}
use Rattle.versions.specs.declared.Store.{Store}
use Rattle.versions.specs.Store.{Areas, areas_differ}
use Rattle.table.specs.Refused.{answered}

-- Rows 3, 23 and 24.
unfoldable pub set_number : Store → Areas → List ℕ → ℕ
set_number s a t = first_refusal (every_call (areas_differ s a) (window_rows (wrong t) (length (text_lines t))) never)

-- The windows that SETWINDOWS leaves, and what it answers.
pub record WindowsOut : Type 0 where
  pub windows : Windows
  pub answer : Result Unit ℕ

-- What SETWINDOWS gives back, by the table's number k: the new list replaces the old one whole; where the call is refused, the old one stays.
abbrev pub set_by : ℕ → Windows → Windows → WindowsOut
set_by k w new = record { windows = unless k w new; answer = answered k tt }

abbrev pub set_out : Store → Windows → Areas → List ℕ → WindowsOut
set_out s w a t = set_by (set_number s a t) w (placed (windows_of t))
