-- What is read of the input, and the next line cut out of it.
use Rattle.std.specs.Prelude.{◌≡◌, ℕ, ◌+◌, ◌<◌, Bool, true, false, List, [], ◌∷◌, length, take, drop, eqb, ◌≤◌, Option, None, Some}
use Rattle.text.specs.Text.{pick, line_feed}
use Rattle.parse.specs.Cut.{fresh, fed_by, kept_by, unended_in}
use Rattle.parse.specs.declared.Cutter.{Cutter}
use Rattle.steps.specs.declared.Unread.{Unread}

-- Whether bytes were taken to the end of a line, the cutter and the buffer of the line after them, and the index of the next byte.
pub record Taken : Type 0 where
  pub ended : Bool
  pub cutter : Cutter
  pub text : List ℕ
  pub at : ℕ

-- These bytes taken, the first of them at an index, to the end of a line or of them all.
abbrev pub taken : List ℕ → ℕ → Cutter → List ℕ → Taken
taken [] at c l = record { ended = false; cutter = c; text = l; at = at }
taken (b ∷ t) at c l =
    let d = fed_by c (length l) b in
    let k = kept_by c b l in
    pick (eqb b line_feed) (record { ended = true; cutter = d; text = k; at = at + 1 }) (taken t (at + 1) d k)

-- The bytes of the block taken that were read.
abbrev pub line_taken : Unread → Cutter → List ℕ → List ℕ → Taken
line_taken r c block text = taken (drop r.at (take r.end block)) r.at c text

-- What the next line comes to, what is unread after it and the buffer of the line, where nothing has to be read for it: none where the input has ended;
-- where a line ends in what was read, that line, from its first byte on.
abbrev pub line_begun : Option Unread → List ℕ → List ℕ → Option Cutter → Option Unread → List ℕ → Type 0
line_begun None block text x r l = x ≡ None
line_begun (Some u) block text x r l =
    let z = line_taken u fresh block text in
    z.ended ≡ true → (x ≡ Some z.cutter) × (r ≡ Some (record { at = z.at; end = u.end })) × (l ≡ z.text)

-- At the end of the input a last line without its line feed is to be answered.
unfoldable pub last_line : Cutter → Option Cutter
last_line c = pick (unended_in c) (Some c) None

-- The same where the input goes on by this: a line that it is in the middle of is none yet.
abbrev pub line_at_end : Option Unread → Cutter → Option Cutter
line_at_end None c = last_line c
line_at_end (Some r) c = None

-- What is read stands in a block of so many bytes.
abbrev pub within : Option Unread → ℕ → Type 0
within None n = Unit
within (Some r) n = r.end ≤ n

-- Where there is a block, there are bytes in it, and none is taken.
abbrev pub anew : Option Unread → Type 0
anew None = Unit
anew (Some r) = (r.at ≡ 0) × (0 < r.end)
