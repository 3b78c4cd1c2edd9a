-- The rows with which calls on a line and on a version begin, which `line_refusal` and `snapshot_refusal` have tested: their number decides where it is not 0,
-- else the rows after them. Assumes nothing.
use mathlib.Core.Path.{◌≡◌, refl}
use mathlib.Core.Bool.{cond, not}
use mathlib.Core.List.{List, [], ◌∷◌, ◌++◌}
use Prim.Native.Nat.{ℕ}
use lib.Dec.{ltb, eqb}
use Rattle.table.specs.Table.{Cond, ◌<?◌, ◌≢?◌, holds, Row, ◌gives◌, never, first_refusal, or_else, every_call, no_such_line, line_rows, size_rows}
use Rattle.table.proofs.Table.{call-parts, last-fails, parts}
use Rattle.versions.specs.declared.Lengths.{Lengths}
use Rattle.versions.specs.declared.Store.{Store}
use Rattle.versions.specs.Store.{Areas, lengths_of, differ, areas_differ, lines_in, line_in, number_on, part_on}
use Rattle.versions.specs.Size.{refusal_by, snapshot_refusal, size_number}
use Rattle.versions.specs.Recent.{line_refusal, recent_number}

module _ (s : Store) (a : Areas) (l : ℕ) where
  -- Rows 3, 20 and 16, then more.
  pub snapshot-call : (v : ℕ) (more : List Row) (lost : Cond)
      → first_refusal (every_call (areas_differ s a) ((no_such_line l (lines_in s) gives 20) ∷ ((line_in s l).published.0 <? v gives 16) ∷ more) lost)
      ≡ or_else (snapshot_refusal s (lengths_of a) l v) (first_refusal (more ++ (lost gives 19) ∷ []))
  unfolding refusal_by size_rows
  snapshot-call v more lost = call-parts (areas_differ s a) ((no_such_line l (lines_in s) gives 20) ∷ ((line_in s l).published.0 <? v gives 16) ∷ []) more lost tt

-- Row 16 comes after those of a call on a line.
pub snapshot_rows : (s : Store) (g : Lengths) (l v : ℕ) → snapshot_refusal s g l v ≡ or_else (line_refusal s g l) (cond (ltb (line_in s l).published.0 v) 16 0)
unfolding refusal_by line_refusal size_rows line_rows first_refusal holds
snapshot_rows s g l v = parts ((differ s g gives 3) ∷ (no_such_line l (lines_in s) gives 20) ∷ []) (((line_in s l).published.0 <? v gives 16) ∷ []) tt

-- RECENT asks no more of a line.
pub recent_rows : (s : Store) (a : Areas) (l : ℕ) → recent_number s a l ≡ line_refusal s (lengths_of a) l
unfolding recent_number line_refusal holds
recent_rows s a l = last-fails ((areas_differ s a gives 3) ∷ line_rows l (lines_in s)) never 19 refl

-- SIZE asks for the version's record.
pub size_call : (s : Store) (a : Areas) (l v : ℕ)
    → size_number s a l v ≡ or_else (snapshot_refusal s (lengths_of a) l v) (cond (not (eqb (part_on s a l v).name (number_on s l v))) 19 0)
unfolding size_number size_rows first_refusal holds
size_call s a l v = snapshot-call s a l v [] ((part_on s a l v).name ≢? number_on s l v)

pub ruleset rows = (snapshot_rows, recent_rows, size_call)
