-- Where the program begins, and what a line of the input answers and leaves, on the program's arrays.
use Rattle.std.specs.Prelude.{ℕ, Bool, true, false, List, ◌++◌, take, drop, replicate, Option, None, Some}
use Rattle.text.specs.Buffer.{front}
use Rattle.parse.specs.Cut.{cut_meant}
use Rattle.parse.specs.declared.Cutter.{Cutter}
use Rattle.versions.specs.Store.{Areas, areas_of, lengths_of}
use Rattle.versions.specs.declared.Lengths.{Lengths}
use Rattle.versions.specs.declared.Store.{Store}
use Rattle.answers.specs.Answers.{Said}
use Rattle.wanted.specs.declared.Wanted.{Wanted}
use Rattle.wanted.specs.Wanted.{wanted_by, lent_lengths}
use Rattle.wanted.specs.Steps.{step_said, step_areas}
use Rattle.steps.specs.declared.Place.{Place}
use Rattle.steps.specs.declared.Unread.{Unread}

-- The place where the program begins: no store is open, nothing is read, and the input has not ended.
abbrev pub first_place : Place
first_place = record { kept = None; unread = Some (record { at = 0; end = 0 }) }

-- What is left of the input after an answer: nothing where it could not be written.
abbrev pub unread_after : Option Unread → Bool → Option Unread
unread_after u true = u
unread_after u false = None

-- What the line of text in the cutter asks for.
abbrev pub line_wanted : Cutter → List ℕ → Option Wanted
line_wanted c text = wanted_by (cut_meant c text).step

-- Its page bytes, at the front of a buffer of zeros.
unfoldable pub line_bytes : Cutter → List ℕ → List ℕ
line_bytes c text = front (cut_meant c text).bytes (replicate 600 0)

-- The areas of these lengths: the arrays' first parts.
abbrev pub lent : Lengths → Areas → Areas
lent l a = areas_of (take l.pages a.pages) (take l.nodes a.nodes) (take l.register a.register)

-- The arrays with these areas as their first parts.
abbrev pub returned : Lengths → Areas → Areas → Areas
returned l z a =
    areas_of
    (z.pages ++ drop l.pages a.pages)
    (z.nodes ++ drop l.nodes a.nodes)
    (z.register ++ drop l.register a.register)

-- The lengths of the areas that a step is lent of these arrays.
abbrev pub lent_of : Option Store → Option Wanted → Areas → Lengths
lent_of k w a = lent_lengths k w (lengths_of a)

-- What the line leaves of what is kept, and its answer.
unfoldable pub line_said : Option Store → Cutter → List ℕ → Areas → Said
line_said k c text a =
    let w = line_wanted c text in
    step_said k w (lent (lent_of k w a) a) (line_bytes c text)

-- The arrays after it.
unfoldable pub line_areas : Option Store → Cutter → List ℕ → Areas → Areas
line_areas k c text a =
    let w = line_wanted c text in
    let l = lent_of k w a in
    returned l (step_areas k w (lent l a) (line_bytes c text)) a
