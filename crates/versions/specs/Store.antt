-- The areas that a call is lent, row 3, the lines, and the records of tickets, updates and versions: what every call reads.
-- Where a row reads a record that lies past its area the row does not hold, and 19 does; a number past a limit is read as within it (`update_of`).
use Rattle.std.specs.Prelude.{List, ℕ, ◌*◌, min, ltb, length, get_or, set, Result}
use Rattle.tree.specs.Tree.{nth}
use Rattle.lines.specs.Lines.{pick, no_branch, owner_of, number_of, packed, unpacked, source_at, with_source}
use Rattle.lines.specs.declared.Branch.{Branch}
use Rattle.register.specs.Register.{no_record, version_part}
use Rattle.register.specs.declared.Record.{Record}
use Rattle.register.specs.declared.Part.{Part}
use Rattle.register.specs.declared.Areas.{Areas as Lent}
use Rattle.table.specs.Table.{Cond, ◌≢?◌, ◌or◌}
use Rattle.versions.specs.declared.Store.{Store}
use Rattle.versions.specs.declared.Lengths.{Lengths}

-- The areas that a call is lent: bytes of pages, numbers of nodes, records of the register.
pub record Areas : Type 0 where
  pub pages : List ℕ
  pub nodes : List ℕ
  pub register : List Record

abbrev pub areas_of : List ℕ → List ℕ → List Record → Areas
areas_of pages nodes register = record { pages = pages; nodes = nodes; register = register }

-- The areas as the code is lent them.
abbrev pub lent : Lent → Areas
lent x = areas_of x.pages.now x.nodes.now x.register.now

-- What a call that changes the store leaves of it, and answers, its refusal as the table numbers it.
pub record Out (A : Type 0) : Type 0 where
  pub store : Store
  pub answer : Result A ℕ

-- The areas with other pages, nodes or records.
abbrev pub with_pages : Areas → List ℕ → Areas
with_pages a pages = record { pages = pages; nodes = a.nodes; register = a.register }

abbrev pub with_nodes : Areas → List ℕ → Areas
with_nodes a nodes = record { pages = a.pages; nodes = nodes; register = a.register }

abbrev pub with_register : Areas → List Record → Areas
with_register a register = record { pages = a.pages; nodes = a.nodes; register = register }

abbrev pub lengths_of : Areas → Lengths
lengths_of a = record { pages = length a.pages; nodes = length a.nodes; register = length a.register }

-- Row 3: the areas' lengths are not those of the store. The page area is S bytes a page, the node area two numbers a node.
abbrev pub differ : Store → Lengths → Cond
differ s g = g.pages ≢? s.size * s.pages or g.nodes ≢? 2 * s.nodes or g.register ≢? s.updates

abbrev pub areas_differ : Store → Areas → Cond
areas_differ s a = differ s (lengths_of a)

-- The store with another number of tickets given and of page numbers taken.
abbrev pub with_tickets : Store → ℕ → ℕ → Store
with_tickets s tickets taken = record {
  size = s.size;
  pages = s.pages;
  nodes = s.nodes;
  updates = s.updates;
  tickets = record { 0 = tickets };
  taken = taken;
  assigned = s.assigned;
  places = s.places;
  begun = s.begun;
  sources = s.sources;
  lines = s.lines;
}

-- The store with another number of updates assigned and of node places taken.
abbrev pub with_updates : Store → ℕ → ℕ → Store
with_updates s assigned places = record {
  size = s.size;
  pages = s.pages;
  nodes = s.nodes;
  updates = s.updates;
  tickets = s.tickets;
  taken = s.taken;
  assigned = assigned;
  places = places;
  begun = s.begun;
  sources = s.sources;
  lines = s.lines;
}

-- The store with another number of lines begun, their sources and their words.
abbrev pub with_lines : Store → ℕ → ℕ → List ℕ → Store
with_lines s begun sources lines = record {
  size = s.size;
  pages = s.pages;
  nodes = s.nodes;
  updates = s.updates;
  tickets = s.tickets;
  taken = s.taken;
  assigned = s.assigned;
  places = s.places;
  begun = begun;
  sources = sources;
  lines = lines;
}

-- Record k, counted from 1: ticket k's part, and update k's.
abbrev pub record_of : Areas → ℕ → Record
record_of a k = nth no_record a.register k

-- ---- the lines

-- How many have begun, at most sixteen.
abbrev pub lines_in : Store → ℕ
lines_in s = min s.begun 16

-- Line l's state, and the store with it anew. Past the sixteen no line has begun, and nothing changes.
unfoldable pub line_in : Store → ℕ → Branch
line_in s l = pick (ltb l 16) (unpacked (source_at s.sources l) (get_or s.lines l 0)) no_branch

abbrev pub with_line : Store → ℕ → Branch → Store
with_line s l b = with_lines s s.begun (pick (ltb l 16) (with_source s.sources l b.source.0) s.sources) (set s.lines l (packed b))

-- The number of version v of line l, by the line on which it got its version, and what its record says.
abbrev pub number_on : Store → ℕ → ℕ → ℕ
number_on s l v = number_of (owner_of (line_in s) l v) v

abbrev pub part_on : Store → Areas → ℕ → ℕ → Part
part_on s a l v = version_part a.register (number_on s l v)
