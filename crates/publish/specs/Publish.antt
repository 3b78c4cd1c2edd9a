-- PUBLISH line minute: what it answers and leaves, over any store, windows and areas.
use Rattle.std.specs.Prelude.{Bool, true, false, not, ◌&&◌, ℕ, suc, ◌+◌, ◌-◌, ◌^◌, min, ltb, eqb}
use Rattle.lines.specs.Lines.{published_to, number_of}
use Rattle.lines.specs.declared.Branch.{Branch}
use Rattle.register.specs.Register.{version_part}
use Rattle.register.specs.declared.Part.{Part}
use Rattle.table.specs.Table.{Cond, ◌and◌, test, every_call, first_refusal, unless, publish_rows}
use Rattle.versions.specs.declared.Store.{Store}
use Rattle.windows.specs.declared.Windows.{Windows}
use Rattle.windows.specs.Windows.{inside}
use Rattle.publish.specs.declared.Published.{Published}
use Rattle.versions.specs.Store.{Areas, areas_differ, lines_in, line_in, with_line, Out}
use Rattle.versions.specs.Size.{not_there}
use Rattle.table.specs.Refused.{answered}

-- There is a version after the line's last published one.
abbrev pub has_next : Branch → Bool
has_next b = ltb b.published.0 b.assigned.0

-- Its number, within 64 bits, and what its record says: what is published on a line reaches at least to where it begins, so that the next version is the line's own.
abbrev pub number_by : ℕ → Branch → ℕ
number_by l b = number_of l (min (b.published.0 + 1) (2 ^ 64 - 1))

abbrev pub next_number : Store → ℕ → ℕ
next_number s l = number_by l (line_in s l)

abbrev pub next_part : Store → Areas → ℕ → Part
next_part s a l = version_part a.register (next_number s l)

-- Inside a window no record is looked at; `held` is that the minute is inside one.
abbrev pub lost : Bool → Branch → Part → ℕ → Cond
lost held b q c = test (not held && has_next b) and not_there q c

unfoldable pub publish_number : Store → Windows → Areas → ℕ → ℕ → ℕ
publish_number s w a l minute =
    first_refusal
    (every_call (areas_differ s a) (publish_rows l (lines_in s) minute) (lost (inside w.places minute) (line_in s l) (next_part s a l) (next_number s l)))

-- It is there, and as many of its nodes are woven as it has; q is its record's part.
unfoldable pub due_by : Branch → Part → Bool
due_by b q = has_next b && eqb q.woven q.count

-- A line's state with one version more published.
abbrev pub with_published : Branch → Branch
with_published b = published_to b (suc b.published.0)

-- What is answered, by whether the minute is inside a window, and whether version v is due.
abbrev pub published : Bool → Bool → ℕ → Published
published true d v = Published.Held
published false true v = Published.Now (record { 0 = v })
published false false v = Published.Waiting

abbrev pub store_if : Bool → Store → Store → Store
store_if true s r = s
store_if false s r = r

-- What PUBLISH gives back, by the table's number k, whether the minute is inside a window, and whether the next version is due: inside one nothing moves.
abbrev pub published_by : Store → ℕ → ℕ → Bool → Bool → Out Published
published_by s l k held due = record {
  store = unless k s (store_if (not held && due) (with_line s l (with_published (line_in s l))) s);
  answer = answered k (published held due (suc (line_in s l).published.0));
}

abbrev pub publish_out : Store → Windows → Areas → ℕ → ℕ → Out Published
publish_out s w a l minute =
    published_by s l (publish_number s w a l minute) (inside w.places minute) (due_by (line_in s l) (next_part s a l))
