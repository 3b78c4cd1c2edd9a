-- ASSIGN ticket to a line, as a write at page f: what it answers and leaves, over any store and areas. An append is a write at the size of the line's last
-- assigned version.
use Rattle.std.specs.Prelude.{Bool, List, [], ◌∷◌, ℕ, suc, pred, ◌+◌, ◌-◌, ◌%◌, ◌^◌, ◌≤◌, ◌<◌, min, max, eqb, get_or, Result}
use Rattle.tree.specs.Tree.{Update, count_of, root_height}
use Rattle.tree.specs.Place.{halvings}
use Rattle.tree.specs.Contract.{root_span}
use Rattle.lines.specs.Lines.{assigned_to, number_of, with_entry}
use Rattle.lines.specs.declared.Branch.{Branch}
use Rattle.register.specs.Register.{no_record, with_ticket_fields, with_update_fields, with_entries, limited, with_record}
use Rattle.register.specs.declared.Record.{Record}
use Rattle.register.specs.declared.Part.{Part}
use Rattle.table.specs.Table.{◌≤?◌, ◌<?◌, ◌or◌, ◌gives◌, every_call, first_refusal, unless, assign_rows}
use Rattle.versions.specs.declared.Store.{Store}
use Rattle.versions.specs.declared.Lengths.{Lengths}
use Rattle.assign.specs.declared.Assigned.{Assigned}
use Rattle.versions.specs.Store.{Areas, lengths_of, differ, with_updates, record_of, lines_in, line_in, with_line, Out}
use Rattle.table.specs.Refused.{answered}

-- The size in pages after n pages from f on, of a blob of so many pages.
abbrev pub size_after : ℕ → ℕ → ℕ → ℕ
size_after blob f n = max blob (f + n)

-- The update that n pages at page f would make.
abbrev pub update_at : ℕ → ℕ → ℕ → Update
update_at blob f n = limited f (f + n - 1) (size_after blob f n)

-- All n pages are put: the low n bits of the mask are ones, whatever stands above them.
abbrev pub all_put : Record → Bool
all_put r = eqb (r.put % 2 ^ r.n) (2 ^ r.n - 1)

-- The rows from 14 on, for n pages at page f of line l that make so many nodes, where the ticket's record is there. The next update's record, and that of the line's
-- next version, must lie within the register.
abbrev pub room_by : Store → ℕ → ℕ → ℕ → ℕ → ℕ
room_by s l f n count =
    first_refusal
    ((4096 <? f + n gives 14)
    ∷ (s.nodes <? s.places + count gives 15)
    ∷ (s.updates ≤? s.assigned or s.updates ≤? (line_in s l).assigned.0 gives 19)
    ∷ [])

-- What these rows leave where none of them holds: there is room for n pages at page f of line l.
pub record Roomy (s : Store) (l f n : ℕ) : Type 0 where
  pub inside : f + n ≤ 4096
  pub nodes : s.places + count_of (update_at (line_in s l).blob f n) ≤ s.nodes
  pub update : s.assigned < s.updates
  pub version : (line_in s l).assigned.0 < s.updates

-- The number of the version after the last assigned one, in 64 bits as the code has it.
abbrev pub number_by : ℕ → Branch → ℕ
number_by l b = number_of l (min (b.assigned.0 + 1) (2 ^ 64 - 1))

-- ASSIGN of so many nodes, with the ticket's record r. The next update's record, and that of the line's next version, must lie within the register too.
abbrev pub refusal_by : Store → Lengths → Record → ℕ → ℕ → ℕ → ℕ → ℕ
refusal_by s g r l t f count =
    let b = line_in s l in
    first_refusal
    (every_call
    (differ s g)
    (assign_rows
    (t ≤? s.updates)
    t
    s.tickets.0
    r.update
    l
    (lines_in s)
    (all_put r)
    f
    b.blob
    r.n
    s.places
    s.nodes
    count)
    (s.updates <? t or s.updates ≤? s.assigned or s.updates ≤? b.assigned.0))

unfoldable pub assign_refusal : Store → Lengths → Record → ℕ → ℕ → ℕ → ℕ
assign_refusal s g r l t f = refusal_by s g r l t f (count_of (update_at (line_in s l).blob f r.n))

abbrev pub assign_number : Store → Areas → ℕ → ℕ → ℕ → ℕ
assign_number s a l t f = assign_refusal s (lengths_of a) (record_of a t) l t f

abbrev pub assigned : ℕ → ℕ → ℕ → Result Assigned ℕ
assigned k v count = answered k (record { version = record { 0 = v }; nodes = count })

-- A line's state with one version more, and so many pages after it.
abbrev pub with_version : Branch → ℕ → Branch
with_version b size = assigned_to b (suc b.assigned.0) size

-- The store with one update more, on line l, its node places taken.
abbrev pub with_update : Store → ℕ → ℕ → ℕ → Store
with_update s l count size =
    with_updates (with_line s l (with_version (line_in s l) size)) (suc s.assigned) (s.places + count)

-- A record with its ticket's update.
abbrev pub with_update_of : Record → ℕ → Record
with_update_of r k = with_ticket_fields r r.n r.number r.put k

-- What a record says of a new update: its version's number, pages f .. last, size after, the sum of its first node place and its root's height, and what follows from
-- the update u; none woven.
abbrev pub part_by : Update → ℕ → ℕ → ℕ → ℕ → ℕ → Part
part_by u name f last size top = record {
  name = name;
  f = record { 0 = f };
  last = record { 0 = last };
  top = top;
  past = halvings u.f;
  span = root_span u.size;
  size = size;
  count = count_of u;
  woven = 0;
}

-- A record with an update's part anew: its ticket, its version's number, pages f .. last, size after, the sum of its first node place and its root's height, and what
-- follows from its pages and the size; none woven.
abbrev pub with_update_part : Record → ℕ → ℕ → ℕ → ℕ → ℕ → ℕ → Record
with_update_part r t name f last size top =
    with_update_fields r (record { 0 = t }) (part_by (limited f last size) name f last size top)

-- A record with update k as line l's own version.
abbrev pub with_entry_of : Record → ℕ → ℕ → Record
with_entry_of r l k = with_entries r (with_entry r.entries l k)

-- The register with ticket t's update, whose record is r; with that update's part; and with its number in the record of the line's next version. The three records
-- may be one.
abbrev pub with_ticket_update : Store → List Record → Record → ℕ → List Record
with_ticket_update s rs r t = with_record rs (pred t) (with_update_of r (suc s.assigned))

abbrev pub with_next_update : Store → List Record → Record → ℕ → ℕ → ℕ → List Record
with_next_update s rs r l t f =
    let b = line_in s l in
    let ps = with_ticket_update s rs r t in
    with_record ps s.assigned
    (with_update_part (get_or ps s.assigned no_record) t (number_of l (suc b.assigned.0)) f (f + r.n - 1) (size_after b.blob f r.n)
    (s.places + root_height (update_at b.blob f r.n).size))

abbrev pub with_assigned : Store → List Record → Record → ℕ → ℕ → ℕ → List Record
with_assigned s rs r l t f =
    let v = (line_in s l).assigned.0 in
    let qs = with_next_update s rs r l t f in
    with_record qs v (with_entry_of (get_or qs v no_record) l (suc s.assigned))

abbrev pub assigned_register : Store → Areas → ℕ → ℕ → ℕ → List Record
assigned_register s a l t f = with_assigned s a.register (record_of a t) l t f

-- What ASSIGN gives back for n pages at page f of line l, by the table's number k.
abbrev pub assigned_by : Store → ℕ → ℕ → ℕ → ℕ → Out Assigned
assigned_by s l f n k =
    let b = line_in s l in
    let count = count_of (update_at b.blob f n) in
    record { store = unless k s (with_update s l count (size_after b.blob f n)); answer = assigned k (suc b.assigned.0) count }

abbrev pub assign_out : Store → Areas → ℕ → ℕ → ℕ → Out Assigned
assign_out s a l t f = assigned_by s l f (record_of a t).n (assign_number s a l t f)

abbrev pub assign_register : Store → Areas → ℕ → ℕ → ℕ → List Record
assign_register s a l t f = unless (assign_number s a l t f) a.register (assigned_register s a l t f)
