-- A word of the document is written as a quoted text.
use Rattle.std.specs.Prelude.{ℕ}
use Prim.Native.Char.{code}
use Prim.Native.String.{String, [], ◌∷◌}
use mathlib.Core.List as L

-- the bytes of a quoted text
abbrev pub text : String → L.List ℕ
text [] = L.[]
text (c ∷ s) = L.◌∷◌ (code c) (text s)

-- quoted lines as one text
abbrev pub together : L.List (L.List ℕ) → L.List ℕ
together L.[] = L.[]
together (L.◌∷◌ l ls) = L.◌++◌ l (together ls)
