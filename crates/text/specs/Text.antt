-- Runs of bytes, and the choice by a test. A byte is its number.
use Rattle.std.specs.Prelude.{ℕ, Bool, true, false, ◌&&◌, List, [], ◌∷◌, eqb}

-- one of two, by a test
abbrev pub pick : {A : Type 0} → Bool → A → A → A
pick true a b = a
pick false a b = b

-- a comma
abbrev pub comma : ℕ
comma = 44

-- a line feed
abbrev pub line_feed : ℕ
line_feed = 10

-- whether two runs of bytes are the same
abbrev pub same : List ℕ → List ℕ → Bool
same [] [] = true
same [] (b ∷ m) = false
same (a ∷ l) [] = false
same (a ∷ l) (b ∷ m) = eqb a b && same l m

-- runs with the byte b put before the first of them
abbrev pub joined : ℕ → List (List ℕ) → List (List ℕ)
joined b [] = (b ∷ []) ∷ []
joined b (f ∷ fs) = (b ∷ f) ∷ fs

-- the lines of a text: what stands before its line feeds, and what stands after the last one unless that is nothing
abbrev pub text_lines : List ℕ → List (List ℕ)
text_lines [] = []
text_lines (b ∷ t) = pick (eqb b line_feed) ([] ∷ text_lines t) (joined b (text_lines t))
