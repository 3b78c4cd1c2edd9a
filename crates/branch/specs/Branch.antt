-- BRANCH line, v: what it answers and leaves, over any store and areas. (The thesis' branching: a new line that shares all up to a published version.)
use Rattle.std.specs.Prelude.{ℕ, suc, Result}
use Rattle.lines.specs.declared.Branch.{Branch}
use Rattle.table.specs.Table.{every_call, first_refusal, unless, branch_rows}
use Rattle.versions.specs.declared.Store.{Store}
use Rattle.versions.specs.Store.{Areas, areas_differ, with_lines, lines_in, line_in, with_line, number_on, part_on, Out}
use Rattle.versions.specs.Size.{not_there, pages_in}
use Rattle.table.specs.Refused.{answered}
use Rattle.lines.specs.declared.Line.{Line}

unfoldable pub branch_number : Store → Areas → ℕ → ℕ → ℕ
branch_number s a l v =
    first_refusal (every_call (areas_differ s a) (branch_rows l (lines_in s) v (line_in s l).published.0) (not_there (part_on s a l v) (number_on s l v)))

-- The state of a line that begins from version v of line l, of so many pages: v is its last assigned version and its last published one.
abbrev pub begun_from : ℕ → ℕ → ℕ → Branch
begun_from l v pages = record { source = record { 0 = l }; start = record { 0 = v }; assigned = record { 0 = v }; published = record { 0 = v }; blob = pages }

-- The store with one line more.
abbrev pub with_branch : Store → Branch → Store
with_branch s b =
    let x = with_line s (lines_in s) b in
    with_lines x (suc (lines_in s)) x.sources x.lines

abbrev pub branched : ℕ → ℕ → Result Line ℕ
branched k l = answered k (record { 0 = l })

-- What BRANCH gives back of a line's state, by the table's number k.
abbrev pub branched_by : Store → Branch → ℕ → Out Line
branched_by s b k = record { store = unless k s (with_branch s b); answer = branched k (lines_in s) }

abbrev pub branch_out : Store → Areas → ℕ → ℕ → Out Line
branch_out s a l v = branched_by s (begun_from l v (pages_in s a l v)) (branch_number s a l v)
