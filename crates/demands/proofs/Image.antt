-- The store that a model stands for, to the last byte: counters, lines, windows, register, pages and nodes.
-- Assumes nothing.
use Rattle.std.proofs.Common.{Option}
use mathlib.Core.List.{List, [], ◌∷◌}
use Prim.Native.Nat.{ℕ, suc, ◌+◌, ◌*◌, ◌%◌}
use lib.Dec.{ltb}
use lib.ListN.{length}
use Rattle.tree.specs.Tree.{count_of, nth, root_height}
use Rattle.tree.specs.Contract.{root_span}
use Rattle.tree.specs.Place.{halvings}
use Rattle.lines.specs.Lines.{packed, entries_of}
use Rattle.lines.specs.declared.Branch.{Branch}
use Rattle.lines.proofs.States.{sources_of}
use Rattle.register.specs.Register.{no_record, with_ticket_fields, with_update_fields, with_entries}
use Rattle.register.specs.declared.Record.{Record}
use Rattle.register.specs.declared.Part.{Part}
use Rattle.windows.specs.declared.Windows.{Windows}
use Rattle.windows.specs.Windows.{placed}
use Rattle.versions.specs.declared.Store.{Store}
use Rattle.versions.specs.Store.{Areas, areas_of, with_tickets, with_updates, with_lines}
use Rattle.model.specs.History.{Page, Ticket, Version, pages_of, to_update, blob_size, is_filled, bit_if, no_ticket}
use Rattle.model.specs.Model.{Limits, Model, line_at, update_at, history, ticket_update, numbered, Line}
use Rattle.model.specs.Layout.{node_place, nodes_used, pages_used, slot_number}
use Rattle.model.specs.OnModel.{ticket_in, either}
use Rattle.model.proofs.Lists.Laid.{tab}
use Rattle.model.proofs.Area.Image.{pages_image, nodes_image}
use Rattle.demands.specs.Run.{State, state_with, with_windows, fresh_of}

-- ---- the register: record i has ticket i + 1's part, update i + 1's, and for each line its own version i + 1

-- Bit i is 1 where slot i is filled.
unfoldable pub mask_of : List (Option Page) → ℕ
mask_of [] = 0
mask_of (x ∷ xs) = bit_if (is_filled x) + 2 * mask_of xs

-- The number at which the pages of the ticket at index i begin, and the place at which the nodes of the update there do; 0 where there is none.
abbrev pub number_at : Model → ℕ → ℕ
number_at m i = either (ltb i (length m.tickets)) (slot_number m (suc i) 0) 0

abbrev pub first_place_at : Model → ℕ → ℕ
first_place_at m i = either (ltb i (length m.updates)) (node_place m (suc i) 0) 0

-- The node count of an update of these tickets; 0 where there is none, which has no ticket.
abbrev pub count_by : List Ticket → Version → ℕ
count_by ks u = either (ltb 0 u.ticket) (count_of (to_update ks u)) 0

-- The update that is line l's own version v; 0 where that is shared or not there.
abbrev pub own_at : Model → ℕ → ℕ → ℕ
own_at m l v = either (ltb (line_at m l).start v) (nth 0 (line_at m l).shown v) 0

-- What a record says of an update of these tickets, with the place at which its nodes begin.
abbrev pub part_image : List Ticket → Version → ℕ → Part
part_image ks u place = record {
  name = numbered u.line u.number;
  f = record { 0 = u.f };
  last = record { 0 = (to_update ks u).last };
  top = place + root_height u.size;
  past = halvings u.f;
  span = root_span u.size;
  size = u.size;
  count = count_by ks u;
  woven = (nth no_ticket ks u.ticket).woven;
}

abbrev pub record_image : Model → ℕ → Record
record_image m i =
    let k = ticket_in m (suc i) in
    let u = update_at m (suc i) in
    with_entries
    (with_update_fields
    (with_ticket_fields no_record (pages_of k) (number_at m i) (mask_of k.slots) (ticket_update m (suc i)))
    (record { 0 = u.ticket })
    (part_image m.tickets u (first_place_at m i)))
    (entries_of (λ l. own_at m l (suc i)))

unfoldable pub register_image : Limits → Model → List Record
register_image L m = tab L.updates (record_image m)

-- ---- the lines

-- The state of a line, with the size of its blob; its source has 4 bits.
abbrev pub state_by : Line → ℕ → Branch
state_by x blob = record {
  source = record { 0 = x.source % 16 };
  start = record { 0 = x.start };
  assigned = record { 0 = length x.shown };
  published = record { 0 = x.published };
  blob = blob;
}

abbrev pub branch_image : Model → ℕ → Branch
branch_image m l =
    state_by (line_at m l) (blob_size (history m l))

-- The states as the store has them: the sources in a word, and a word a line.
unfoldable pub sources_image : Model → ℕ
sources_image m = sources_of 16 (λ l. (branch_image m l).source.0)

unfoldable pub lines_image : Model → List ℕ
lines_image m = tab 16 (λ l. packed (branch_image m l))

-- ---- the whole

abbrev pub store_image : Limits → Model → Store
store_image L m =
    with_lines
    (with_updates (with_tickets (fresh_of L) (length m.tickets) (pages_used m)) (length m.updates) (nodes_used m))
    (length m.lines)
    (sources_image m)
    (lines_image m)

abbrev pub windows_image : Model → Windows
windows_image m = placed m.windows

abbrev pub areas_image : Limits → Model → Areas
areas_image L m = areas_of (pages_image L m) (nodes_image L m) (register_image L m)

abbrev pub image : Limits → Model → State
image L m = with_windows (state_with (store_image L m) (areas_image L m)) (windows_image m)
