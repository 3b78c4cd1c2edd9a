-- No window of a text has equal ends, so that none of them ends the list before the others. Assumes nothing.
use Rattle.std.proofs.Common.{Option, Some, None}
use mathlib.Core.Path.{◌≡◌, refl}
use mathlib.Core.Bool.{Bool, true, false, not, ◌&&◌}
use mathlib.Core.List.{List, [], ◌∷◌}
use Prim.Native.Nat.{ℕ}
use lib.Dec.{leb, eqb}
use Rattle.text.specs.Text.{pick, text_lines}
use Rattle.fields.specs.Fields.{fields_of, field_number}
use Rattle.windows.specs.declared.Window.{Window}
use Rattle.windows.specs.Windows.{inside, inside_some}
use Rattle.windows.specs.Listed.{entry_of, entry_by, line_entry, entered, windows_in, InsideMeans}

-- the ends of the window differ, if there is one
abbrev Used : Option Window → Type 0
Used None = Unit
Used (Some w) = eqb w.from w.to ≡ false

tested : (a b : ℕ) (p q r : Bool) → eqb a b ≡ r → Used (pick (p && (q && not r)) (Some (record { from = a; to = b })) None)
tested a b true true true e = tt
tested a b true true false e = e
tested a b true false r e = tt
tested a b false q r e = tt

numbers-used : (x y : Option ℕ) → Used (entry_of x y)
unfolding entry_of
numbers-used None y = tt
numbers-used (Some a) None = tt
numbers-used (Some a) (Some b) = tested a b (leb a 10079) (leb b 10079) (eqb a b) refl

fields-used : (fs : List (List ℕ)) → Used (entry_by fs)
unfolding entry_by
fields-used [] = tt
fields-used (a ∷ []) = tt
fields-used (a ∷ b ∷ []) = numbers-used (field_number a) (field_number b)
fields-used (a ∷ b ∷ c ∷ fs) = tt

-- one line more, which is a window or none
one-more : (k : ℕ) (e : Option Window) (ws : List Window) → Used e → inside ws k ≡ inside_some ws k → inside (entered e ws) k ≡ inside_some (entered e ws) k
unfolding inside inside_some
one-more k None ws u rest = rest
one-more k (Some w) ws u rest = rw (u, rest)

inside-lines : (k : ℕ) (ls : List (List ℕ)) → inside (windows_in ls) k ≡ inside_some (windows_in ls) k
unfolding windows_in inside inside_some
inside-lines k [] = refl
inside-lines k (l ∷ ls) = one-more k (line_entry l) (windows_in ls) (fields-used (fields_of l)) (inside-lines k ls)

pub inside-means : InsideMeans
inside-means t k = inside-lines k (text_lines t)
