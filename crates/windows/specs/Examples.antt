-- Minutes in and out of windows, and texts accepted and refused, computed.
use Rattle.std.specs.Prelude.{◌≡◌, refl, true, false, List, [], ◌∷◌, ◌++◌, map, ℕ, replicate, Ok, Err}
use Rattle.text.specs.Quoted.{text, together}
use Rattle.fields.specs.Fields.{field_number}
use Rattle.table.specs.Table.{holds, first_refusal, unless, window_rows}
use Rattle.windows.specs.declared.Window.{Window}
use Rattle.windows.specs.Windows.{inside_one, inside, no_window, placed, no_windows}
use Rattle.windows.specs.Listed.{entry_of, entry_by, all_windows, ended, windows_in, text_number, listed_of}

abbrev between : ℕ → ℕ → Window
between a b = record { from = a; to = b }

-- a window from 10 to 20, at the minutes 9, 10, 19 and 20
plain : map (inside_one (between 10 20)) (9 ∷ 10 ∷ 19 ∷ 20 ∷ []) ≡ false ∷ true ∷ true ∷ false ∷ []
unfolding inside_one
plain = refl

-- one over the week's end
over-the-end :
    map (inside_one (between 10000 5)) (9999 ∷ 10000 ∷ 10079 ∷ 0 ∷ 4 ∷ 5 ∷ [])
    ≡ false ∷ true ∷ true ∷ true ∷ true ∷ false ∷ []
unfolding inside_one
over-the-end = refl

-- one up to the week's end
up-to-the-end : map (inside_one (between 10079 0)) (10078 ∷ 10079 ∷ 0 ∷ []) ≡ false ∷ true ∷ false ∷ []
unfolding inside_one
up-to-the-end = refl

-- equal ends
equal-ends : map (inside_one (between 7 7)) (6 ∷ 7 ∷ 8 ∷ []) ≡ false ∷ false ∷ false ∷ []
unfolding inside_one
equal-ends = refl

-- two windows with a minute between them; and none
several :
    (map (inside (between 10 20 ∷ between 21 30 ∷ [])) (19 ∷ 20 ∷ 21 ∷ 29 ∷ 30 ∷ []) ≡ true ∷ false ∷ true ∷ true ∷ false ∷ [])
    × (map (inside no_windows.places) (0 ∷ 1 ∷ 10079 ∷ []) ≡ false ∷ false ∷ false ∷ [])
unfolding inside_one inside
several = (refl, refl)

-- a place that is not used ends them: what stands after it, as in a store that no call left, is not looked at
ends : map (inside (between 10 20 ∷ between 7 7 ∷ between 21 30 ∷ [])) (19 ∷ 21 ∷ []) ≡ true ∷ false ∷ []
unfolding inside_one inside
ends = refl

-- the empty text is the empty list, and a list's windows stand in its order
lists :
    (listed_of [] ≡ Ok no_windows)
    × (listed_of (text "0,1\n10079,0\n0,10079\n")
    ≡ Ok (record { places = between 0 1 ∷ between 10079 0 ∷ between 0 10079 ∷ replicate 29 no_window }))
unfolding text_number ended all_windows windows_in placed entry_of entry_by field_number first_refusal window_rows holds unless
lists = (refl, refl)

-- so many lines
abbrev lines : ℕ → List ℕ
lines n = together (replicate n (text "10,20\n"))

-- 32 lines, and 33
most :
    (listed_of (lines 32) ≡ Ok (record { places = replicate 32 (between 10 20) }))
    × (listed_of (lines 33) ≡ Err 24)
unfolding text_number ended all_windows windows_in placed entry_of entry_by field_number first_refusal window_rows holds unless
most = (refl, refl)

-- a text with a wrong line
abbrev Wrong : List ℕ → Type 0
Wrong t = listed_of t ≡ Err 23

wrong-lines :
    Wrong (text "5,5\n")
    × Wrong (text "10080,1\n")
    × Wrong (text "1,10080\n")
    × Wrong (text "18446744073709551616,1\n")
    × Wrong (text "1,2")
    × Wrong (text "1,2\n3,4")
    × Wrong (text "\n")
    × Wrong (text "1,2\n\n")
    × Wrong (text "01,2\n")
    × Wrong (text "1,02\n")
    × Wrong (text "+1,2\n")
    × Wrong (text "1,-2\n")
    × Wrong (text " 1,2\n")
    × Wrong (text "1, 2\n")
    × Wrong (text "1,2 \n")
    × Wrong (text "1,2,3\n")
    × Wrong (text "1\n")
    × Wrong (text "1,\n")
    × Wrong (text ",2\n")
    × Wrong (text "1,2" ++ (13 ∷ 10 ∷ []))
    × Wrong (text "1,2\n" ++ (0 ∷ 10 ∷ []))
    × Wrong (text "x\n1,2\n")
unfolding text_number ended all_windows windows_in placed entry_of entry_by field_number first_refusal window_rows holds unless
wrong-lines = (refl, refl, refl, refl, refl, refl, refl, refl, refl, refl, refl, refl, refl, refl, refl, refl, refl, refl, refl, refl, refl, refl)

-- 23 comes before 24, also where the wrong line is the 33rd
wrong_first : Wrong (lines 32 ++ text "x\n") × Wrong (lines 33 ++ text "1,2") × Wrong (text "5,5\n" ++ lines 33)
unfolding text_number ended all_windows windows_in placed entry_of entry_by field_number first_refusal window_rows holds unless
wrong_first = (refl, refl, refl)
