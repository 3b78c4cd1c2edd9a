-- Blast windows, in minutes of the week, and whether a minute is inside one.
use Rattle.std.specs.Prelude.{ℕ, ◌-◌, Bool, false, ◌&&◌, ◌||◌, List, [], ◌∷◌, ◌++◌, leb, ltb, eqb, length, replicate}
use Rattle.text.specs.Text.{pick}
use Rattle.windows.specs.declared.Window.{Window}
use Rattle.windows.specs.declared.Windows.{Windows}

-- whether a minute is inside a window: `from` is inside and `to` outside; where `from` is above `to`, the window runs over the week's end. One with equal ends
-- has no minute.
unfoldable pub inside_one : Window → ℕ → Bool
inside_one w k = pick (leb w.from w.to) (leb w.from k && ltb k w.to) (leb w.from k || ltb k w.to)

-- whether a minute is inside one of these windows; one with equal ends, as stands in a place that is not used, ends them
unfoldable pub inside : List Window → ℕ → Bool
inside [] k = false
inside (w ∷ ws) k = pick (eqb w.from w.to) false (inside_one w k || inside ws k)

-- whether a minute is inside one of them, whichever it is and whatever stands before it
unfoldable pub inside_some : List Window → ℕ → Bool
inside_some [] k = false
inside_some (w ∷ ws) k = inside_one w k || inside_some ws k

-- what stands in a place that is not used
abbrev pub no_window : Window
no_window = record { from = 0; to = 0 }

-- a list as a store has it: its windows in order, and then the places that are not used
unfoldable pub placed : List Window → Windows
placed ws = record { places = ws ++ replicate (32 - length ws) no_window }

-- no windows, as after FORMAT
abbrev pub no_windows : Windows
no_windows = record { places = replicate 32 no_window }
