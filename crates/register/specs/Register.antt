-- The register of updates. Record k holds the k-th ticket's part, the part of the k-th update in the order of ASSIGN on all lines, and for each line which update
-- is its own version k.
use Rattle.std.specs.Prelude.{ℕ, zero, suc, min, max, ◌+◌, ◌-◌, ◌^◌, List, leb, ltb, eqb, length, set, Bool, true, false, ◌&&◌}
use Rattle.tree.specs.Tree.{Update, nth, meets}
use Rattle.tree.specs.declared.Ticket.{Ticket}
use Rattle.lines.specs.Lines.{pick, number_of, line_of, version_of, no_entries, entry_at}
use Rattle.lines.specs.declared.Entries.{Entries}
use Rattle.register.specs.declared.Record.{Record}
use Rattle.register.specs.declared.Part.{Part}
use Rattle.register.specs.declared.Extent.{Extent}

-- An empty record, as FORMAT fills them.
abbrev pub no_record : Record
no_record = record {
  n = 0;
  number = 0;
  put = 0;
  update = 0;
  ticket = record { 0 = 0 };
  name = 0;
  f = record { 0 = 0 };
  last = record { 0 = 0 };
  top = 0;
  past = 0;
  span = 0;
  size = 0;
  count = 0;
  woven = 0;
  entries = no_entries;
}

-- What a record says of its update: the number of its version, its pages; where its nodes lie, by the sum of its first node place and its root's height, the halvings
-- of its first page, and its root's span; the size after it, its node count, and how many of its nodes are woven.
abbrev pub part_of : Record → Part
part_of r = record {
  name = r.name;
  f = r.f;
  last = r.last;
  top = r.top;
  past = r.past;
  span = r.span;
  size = r.size;
  count = r.count;
  woven = r.woven;
}

-- A part with so many nodes woven.
abbrev pub woven_to : Part → ℕ → Part
woven_to q woven = record {
  name = q.name;
  f = q.f;
  last = q.last;
  top = q.top;
  past = q.past;
  span = q.span;
  size = q.size;
  count = q.count;
  woven = woven;
}

-- A record with its ticket's fields anew: its pages, its first page number, which pages are put, and the number of its update.
abbrev pub with_ticket_fields : Record → ℕ → ℕ → ℕ → ℕ → Record
with_ticket_fields r n number put update = record {
  n = n;
  number = number;
  put = put;
  update = update;
  ticket = r.ticket;
  name = r.name;
  f = r.f;
  last = r.last;
  top = r.top;
  past = r.past;
  span = r.span;
  size = r.size;
  count = r.count;
  woven = r.woven;
  entries = r.entries;
}

-- A record with its update's fields anew: the update's ticket, and what the record says of it.
abbrev pub with_update_fields : Record → Ticket → Part → Record
with_update_fields r ticket q = record {
  n = r.n;
  number = r.number;
  put = r.put;
  update = r.update;
  ticket = ticket;
  name = q.name;
  f = q.f;
  last = q.last;
  top = q.top;
  past = q.past;
  span = q.span;
  size = q.size;
  count = q.count;
  woven = q.woven;
  entries = r.entries;
}

-- A record with the lines' own versions anew.
abbrev pub with_entries : Record → Entries → Record
with_entries r entries = record {
  n = r.n;
  number = r.number;
  put = r.put;
  update = r.update;
  ticket = r.ticket;
  name = r.name;
  f = r.f;
  last = r.last;
  top = r.top;
  past = r.past;
  span = r.span;
  size = r.size;
  count = r.count;
  woven = r.woven;
  entries = entries;
}

-- The last page that a blob can have.
abbrev pub most_page : ℕ
most_page = 4095

-- Pages and a size are within the limits.
unfoldable pub in_limits : ℕ → ℕ → ℕ → Bool
in_limits f last size = leb f last && ltb last size && leb size (suc most_page)

-- Pages and a size brought within the limits: f <= last < size <= 4,096. What the calls accept it leaves as it is.
abbrev pub limited : ℕ → ℕ → ℕ → Update
limited f last size =
    let g = min f most_page in
    let l = max g (min last most_page) in
    record { f = g; last = l; size = max (suc l) (min size (suc most_page)) }

-- The update of a record's part.
unfoldable pub update_of : Part → Update
update_of q = limited q.f.0 q.last.0 q.size

-- An update as the code has it.
abbrev pub extent_of : Update → Extent
extent_of u = record { f = record { 0 = u.f }; last = record { 0 = u.last }; size = u.size }

abbrev pub set_if : Bool → List Record → ℕ → Record → List Record
set_if true rs i r = set rs i r
set_if false rs i r = rs

-- The register with a record written at an index; past its end nothing changes.
unfoldable pub with_record : List Record → ℕ → Record → List Record
with_record rs i r = set_if (ltb i (length rs)) rs i r

-- The record of the version numbered c: record c % 65536 where that update has this number, as it always has while one line alone has updates; else the one that
-- line c / 65536's entry there names.
unfoldable pub version_record : List Record → ℕ → Record
version_record rs c =
    let r = nth no_record rs (version_of c) in
    pick (eqb r.name c) r (nth no_record rs (entry_at r.entries (line_of c)))

abbrev pub version_part : List Record → ℕ → Part
version_part rs c = part_of (version_record rs c)

-- The part is that of the version numbered c; else there is no such record.
abbrev pub is_of : Part → ℕ → Bool
is_of q c = eqb q.name c

-- The newest of line l's own versions above `start` and up to v whose update, as the register has it, meets the s pages from a on; 0 for none.
unfoldable pub newest_own : List Record → ℕ → ℕ → ℕ → ℕ → ℕ → ℕ
newest_own rs l start zero a s = 0
newest_own rs l start (suc v) a s =
    let u = update_of (version_part rs (number_of l (suc v))) in
    pick (ltb start (suc v)) (pick (meets u.f u.last a s) (suc v) (newest_own rs l start v a s)) 0

-- The highest page that an update may begin at to meet the s pages from a on: none where a is past the last page of any blob, and any page where the s
-- pages reach past it.
unfoldable pub highest : ℕ → ℕ → ℕ
highest a s = elim (ltb most_page a) [ true ↦ 0 | false ↦ elim (ltb most_page (a + s)) [ true ↦ 2 ^ 64 - 1 | false ↦ a + s - 1 ] ]
