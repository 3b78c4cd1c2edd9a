-- Every row of the table of refusals but 20 to 24, by computation: on the model and on the calls' definitions where a formatted store can give it, and 3 and 19 on
-- areas that no run left; and what FORMAT leaves.
use Rattle.std.specs.Prelude.{◌≡◌, refl, List, [], ◌∷◌, map, ℕ, ◌*◌, replicate, Some, Ok, Err}
use Rattle.lines.specs.Lines.{no_branch, assigned_to, published_to, packed}
use Rattle.lines.specs.declared.Branch.{Branch}
use Rattle.register.specs.Register.{no_record}
use Rattle.model.specs.Calls.{Call, BEGIN, PUT, WEAVE, SETWINDOWS, on, WRITE, APPEND, PUBLISH, BRANCH, READ, SIZE, RECENT, STAMP, VIEW, refused, ticket_is, put_done, version_is, node_is, published_is, waiting, filled, size_is, recent_is, part_is, Outcome, says}
use Rattle.model.specs.History.{no_ticket, with_slots, version_by}
use Rattle.model.specs.Model.{Limits, Model, no_line, no_model, with_shown, with_tickets, with_updates, with_lines}
use Rattle.model.specs.OnModel.{on_model}
use Rattle.model.specs.Run.{outcomes}
use Rattle.model.specs.Example.{page_of}
use Rattle.windows.specs.Windows.{no_windows}
use Rattle.versions.specs.declared.Store.{Store}
use Rattle.versions.specs.Store.{Areas, areas_of, with_pages, with_nodes, with_register, with_tickets as store_tickets, with_updates as store_updates, with_lines as store_lines}
use Rattle.format.specs.Format.{fresh, format_number, format_answer, format_areas}
use Rattle.begin.specs.Begin.{with_ticket_part}
use Rattle.put.specs.Put.{with_put}
use Rattle.demands.specs.Computes.{computes}
use Rattle.demands.specs.Run.{State, state_with, with_store, with_lent, on_store, formatted_state, store_after}

abbrev pub page : List ℕ
page = page_of 5

abbrev pub no : ℕ → Outcome
no k = says (refused k)

-- READ's refusal leaves the buffer.
abbrev pub no_read : ℕ → List ℕ → Outcome
no_read k buffer = record { answer = refused k; buffer = buffer }

-- ---- rows 1 to 3, FORMAT

-- Areas for a page size and capacities, and what FORMAT of them says.
abbrev areas_for : ℕ → ℕ → ℕ → Areas
areas_for bytes numbers records = record { pages = replicate bytes 1; nodes = replicate numbers 1; register = replicate records no_record }

pub format-rows :
    (format_number (fresh 0 4 8 2) (areas_for 0 16 2) ∷ format_number (fresh 17 4 8 2) (areas_for 68 16 2) ∷ format_number (fresh 8 4 8 2) (areas_for 32 16 2)
    ∷ format_number (fresh 8192 0 8 2) (areas_for 0 16 2) ∷ format_number (fresh 16 0 8 2) (areas_for 0 16 2) ∷ format_number (fresh 16 65536 8 2) (areas_for 0 16 2)
    ∷ format_number (fresh 16 4 0 2) (areas_for 64 0 2) ∷ format_number (fresh 16 4 131073 2) (areas_for 64 0 2) ∷ format_number (fresh 16 4 8 0) (areas_for 64 16 0)
    ∷ format_number (fresh 16 4 8 4097) (areas_for 64 16 2) ∷ format_number (fresh 16 4 8 2) (areas_for 63 16 2) ∷ format_number (fresh 16 4 8 2) (areas_for 64 15 2)
    ∷ format_number (fresh 16 4 8 2) (areas_for 64 16 3) ∷ format_number (fresh 16 4 8 2) (areas_for 64 16 2) ∷ format_number (fresh 4096 65535 131072 4096) (areas_for 0 0 0) ∷ [])
    ≡ (1 ∷ 1 ∷ 1 ∷ 1 ∷ 2 ∷ 2 ∷ 2 ∷ 2 ∷ 2 ∷ 2 ∷ 3 ∷ 3 ∷ 3 ∷ 0 ∷ 3 ∷ [])
unfolding computes
format-rows = refl

-- What FORMAT of a page size and capacities of 1 says where no area is lent: 3 where the size is allowed, else 1.
abbrev sized : ℕ → ℕ
sized s = format_number (fresh s 1 1 1) (areas_for 0 0 0)

-- Row 1: the powers of two from 16 to 4,096 are allowed, and neither what lies beside one nor a sum of two. Row 2: a capacity of 1 is allowed.
pub page-sizes :
    map sized (16 ∷ 32 ∷ 64 ∷ 128 ∷ 256 ∷ 512 ∷ 1024 ∷ 2048 ∷ 4096 ∷ []) ≡ replicate 9 3
    × map sized (15 ∷ 20 ∷ 24 ∷ 48 ∷ 96 ∷ 255 ∷ 3072 ∷ 4095 ∷ 4097 ∷ 4112 ∷ []) ≡ replicate 10 1
unfolding computes
page-sizes = (refl, refl)

-- Areas with something in them.
unfoldable pub lent : Areas
lent = record { pages = replicate 16 7; nodes = 7 ∷ 7 ∷ []; register = with_ticket_part no_record 5 5 ∷ [] }

-- What FORMAT fills: pages of 0, nodes of all ones, an empty record; and it answers the store, with no windows.
pub format-fills :
    format_areas (fresh 16 1 1 1) lent ≡ record { pages = replicate 16 0; nodes = 4294967295 ∷ 4294967295 ∷ []; register = no_record ∷ [] }
    × format_answer (fresh 16 1 1 1) lent ≡ Ok (record { store = fresh 16 1 1 1; windows = no_windows })
unfolding computes lent
format-fills = (refl, refl)

-- A refused FORMAT, by row 1, 2 or 3, leaves the areas and answers no store.
pub format-leaves :
    map (λ s. format_areas s lent) (fresh 17 1 1 1 ∷ fresh 16 1 0 1 ∷ fresh 16 1 1 2 ∷ []) ≡ replicate 3 lent
    × map (λ s. format_answer s lent) (fresh 17 1 1 1 ∷ fresh 16 1 0 1 ∷ fresh 16 1 1 2 ∷ []) ≡ Err 1 ∷ Err 2 ∷ Err 3 ∷ []
unfolding computes lent
format-leaves = (refl, refl)

-- ---- rows 4 to 18, but 14, in one run

unfoldable pub limits : Limits
limits = record { size = 16; pages = 5; nodes = 6; updates = 3 }

unfoldable pub areas : Areas
areas = areas_for 80 12 3

unfoldable pub calls : List Call
calls =
    BEGIN 0
    ∷ BEGIN 65
    ∷ BEGIN 6
    ∷ PUT 1 0 page
    ∷ WEAVE 0
    ∷ on 0 (WRITE 1 0)
    ∷ BEGIN 2
    ∷ WEAVE 1
    ∷ PUT 1 2 page
    ∷ PUT 1 0 (replicate 15 5)
    ∷ PUT 1 0 page
    ∷ PUT 1 0 page
    ∷ on 0 (APPEND 1)
    ∷ PUT 1 1 page
    ∷ on 0 (WRITE 1 1)
    ∷ on 0 (APPEND 1)
    ∷ PUT 1 0 page
    ∷ on 0 (WRITE 1 0)
    ∷ on 0 (READ 1 0 1 (9 ∷ []))
    ∷ on 0 (SIZE 1)
    ∷ on 0 (STAMP 1 0)
    ∷ on 0 (VIEW 1 0)
    ∷ WEAVE 1
    ∷ WEAVE 1
    ∷ on 0 (PUBLISH 0)
    ∷ WEAVE 1
    ∷ WEAVE 1
    ∷ on 0 (PUBLISH 0)
    ∷ on 0 (PUBLISH 0)
    ∷ on 0 (READ 1 31 2 (9 ∷ 9 ∷ []))
    ∷ on 0 (READ 1 0 3 (9 ∷ 9 ∷ []))
    ∷ on 0 (READ 1 31 1 (9 ∷ 9 ∷ []))
    ∷ on 0 (STAMP 1 2)
    ∷ on 0 (VIEW 1 2)
    ∷ on 0 (READ 0 0 0 (9 ∷ []))
    ∷ on 0 (READ 0 1 0 (9 ∷ []))
    ∷ on 0 (SIZE 0)
    ∷ BEGIN 1
    ∷ PUT 2 0 page
    ∷ on 0 (WRITE 2 2)
    ∷ BEGIN 1
    ∷ PUT 3 0 page
    ∷ on 0 (APPEND 3)
    ∷ BEGIN 1
    ∷ on 0 RECENT
    ∷ []

unfoldable pub given : List Outcome
given =
    no 4
    ∷ no 4
    ∷ no 6
    ∷ no 7
    ∷ no 7
    ∷ no 7
    ∷ says (ticket_is 1)
    ∷ no 8
    ∷ no 9
    ∷ no 11
    ∷ says put_done
    ∷ no 10
    ∷ no 12
    ∷ says put_done
    ∷ no 13
    ∷ says (version_is 1 3)
    ∷ no 8
    ∷ no 8
    ∷ no_read 16 (9 ∷ [])
    ∷ no 16
    ∷ no 16
    ∷ says (part_is [])
    ∷ says (node_is 1 0 2 1 1 2)
    ∷ says (node_is 1 0 1 0 0 1)
    ∷ says waiting
    ∷ says (node_is 1 1 1 1 0 0)
    ∷ no 8
    ∷ says (published_is 1)
    ∷ says waiting
    ∷ no_read 17 (9 ∷ 9 ∷ [])
    ∷ no_read 18 (9 ∷ 9 ∷ [])
    ∷ record { answer = filled; buffer = 5 ∷ 9 ∷ [] }
    ∷ no 17
    ∷ says (part_is [])
    ∷ record { answer = filled; buffer = 9 ∷ [] }
    ∷ no_read 17 (9 ∷ [])
    ∷ says (size_is 0)
    ∷ says (ticket_is 2)
    ∷ says put_done
    ∷ says (version_is 2 3)
    ∷ says (ticket_is 3)
    ∷ says put_done
    ∷ no 15
    ∷ no 5
    ∷ says (recent_is 1)
    ∷ []

pub rows-by-model : outcomes (on_model limits) no_model calls ≡ given
unfolding computes limits calls given
rows-by-model = refl

pub rows-by-calls : outcomes on_store (formatted_state limits areas) calls ≡ given
unfolding computes limits areas calls given
rows-by-calls = refl

-- Line 0's state: so many versions assigned, so many published, and so many pages.
abbrev pub line_with : ℕ → ℕ → ℕ → Branch
line_with assigned published blob = published_to (assigned_to no_branch assigned blob) published

-- A store with so many tickets given and page numbers taken, so many updates and node places, and line 0 alone, in this state.
abbrev pub store_with : Store → ℕ → ℕ → ℕ → ℕ → Branch → Store
store_with s tickets taken assigned places b = store_lines (store_updates (store_tickets s tickets taken) assigned places) 1 0 (packed b ∷ replicate 15 0)

-- ---- row 14: a blob of 4,096 pages, given (64 updates of 64 pages lead there), with so many node places. Ticket 1 has one page, put;
-- version 1 is ticket 2's.

unfoldable pub full_limits : ℕ → Limits
full_limits nodes = record { size = 16; pages = 5; nodes = nodes; updates = 2 }

unfoldable pub full_model : Model
full_model =
    let k = with_slots no_ticket (Some page ∷ []) in
    with_lines (with_updates (with_tickets no_model (k ∷ k ∷ [])) (version_by 2 0 1 0 4096 ∷ [])) (with_shown no_line (1 ∷ []) ∷ [])

unfoldable pub full_state : ℕ → State
full_state nodes =
    state_with
    (store_with (fresh 16 5 nodes 2) 2 2 1 1 (line_with 1 0 4096))
    (areas_of (replicate 80 5) (replicate (2 * nodes) 0) (with_put (with_ticket_part no_record 1 0) 0 ∷ no_record ∷ []))

-- An append and a write past 4,096 pages are refused, a write of the last page has 13 nodes.
pub row14-by-model : (outcomes (on_model (full_limits 20)) full_model (on 0 (APPEND 1) ∷ on 0 (WRITE 1 4097) ∷ []) ≡ (no 14 ∷ no 13 ∷ []))
unfolding computes full_limits full_model
row14-by-model = refl

pub row14-by-calls : (outcomes on_store (full_state 20) (on 0 (APPEND 1) ∷ on 0 (WRITE 1 4097) ∷ on 0 (WRITE 1 4095) ∷ []) ≡ (no 14 ∷ no 13 ∷ says (version_is 2 13) ∷ []))
unfolding computes full_state
row14-by-calls = refl

-- ---- rows 3 and 19 on areas that no run left

-- A state with other areas, and areas with other nodes.
abbrev pub with_areas : State → (Areas → Areas) → State
with_areas x g = with_lent x (g x.areas)

abbrev pub nodes_by : (List ℕ → List ℕ) → Areas → Areas
nodes_by g a = with_nodes a (g a.nodes)

-- The state that `calls` leave, with other areas.
abbrev damaged : (Areas → Areas) → State
damaged g = with_areas (store_after limits areas calls) g

-- What every call says where an area's length differs, its line begun or not.
abbrev each : List Call
each =
    BEGIN 0
    ∷ PUT 9 0 []
    ∷ on 0 (WRITE 9 0)
    ∷ on 7 (APPEND 9)
    ∷ WEAVE 9
    ∷ SETWINDOWS (1 ∷ [])
    ∷ on 7 (PUBLISH 10080)
    ∷ on 7 (BRANCH 9)
    ∷ on 0 (READ 9 0 1 [])
    ∷ on 0 (SIZE 9)
    ∷ on 0 RECENT
    ∷ on 7 (STAMP 9 0)
    ∷ on 0 (VIEW 9 0)
    ∷ []

abbrev threes : List Outcome
threes = no 3 ∷ no 3 ∷ no 3 ∷ no 3 ∷ no 3 ∷ no 3 ∷ no 3 ∷ no 3 ∷ no 3 ∷ no 3 ∷ no 3 ∷ no 3 ∷ says (part_is []) ∷ []

pub row3 :
    outcomes on_store (damaged (λ a. with_pages a (1 ∷ a.pages))) each ≡ threes
    × outcomes on_store (damaged (nodes_by (λ x. 1 ∷ x))) each ≡ threes
    × outcomes on_store (damaged (λ a. with_register a (no_record ∷ a.register))) each ≡ threes
unfolding computes limits areas calls
row3 = (refl, refl, refl)

-- The calls that walk version 1's tree, and a READ of no byte, which does not.
abbrev walks : List Call
walks = on 0 (READ 1 16 1 (9 ∷ [])) ∷ on 0 (STAMP 1 1) ∷ on 0 (VIEW 1 1) ∷ on 0 (READ 1 16 0 (9 ∷ [])) ∷ []

abbrev lost : List Outcome
lost = no_read 19 (9 ∷ []) ∷ no 19 ∷ says (part_is []) ∷ record { answer = filled; buffer = 9 ∷ [] } ∷ []

-- A node not stored; a child version that has no such node; a page number past the page area.
pub row19-walks :
    outcomes on_store (damaged (nodes_by (λ x. replicate 12 4294967295))) walks ≡ lost
    × outcomes on_store (damaged (nodes_by (λ x. 1 ∷ 2 ∷ replicate 10 0))) walks ≡ lost
    × outcomes on_store (damaged (nodes_by (λ x. 1 ∷ 1 ∷ 5 ∷ 0 ∷ 5 ∷ 0 ∷ replicate 6 0))) walks ≡ lost
unfolding computes limits areas calls
row19-walks = (refl, refl, refl)

-- A store that says more tickets and versions than the register has records.
unfoldable pub overrun : State
overrun =
    let x = store_after limits areas calls in
    with_store x (store_with x.store 9 x.store.taken 9 x.store.places (line_with 9 8 3))

-- A record past the register; the rows that need no record still come first, and those that need it, 17 of READ and STAMP too, do not hold.
pub row19-records :
    outcomes on_store overrun
    (PUT 9 0 [] ∷ PUT 9 0 page ∷ on 0 (WRITE 9 4) ∷ on 0 (WRITE 9 0) ∷ on 0 (WRITE 3 0) ∷ WEAVE 9 ∷ on 0 (PUBLISH 0) ∷ on 0 (BRANCH 8) ∷ on 0 (SIZE 8)
    ∷ on 0 (READ 8 0 1 []) ∷ on 0 (READ 8 0 0 []) ∷ on 0 (READ 8 999 1 (9 ∷ [])) ∷ on 0 (STAMP 8 0) ∷ on 0 (STAMP 8 999) ∷ on 0 (VIEW 8 999)
    ∷ on 0 (SIZE 9) ∷ on 0 (BRANCH 9) ∷ on 0 (READ 9 0 0 []) ∷ on 0 (STAMP 9 0) ∷ [])
    ≡ (no 11 ∷ no 19 ∷ no 13 ∷ no 19 ∷ no 15 ∷ no 19 ∷ no 19 ∷ no 19 ∷ no 19 ∷ no 18 ∷ no 19 ∷ no_read 19 (9 ∷ []) ∷ no 19 ∷ no 19 ∷ says (part_is [])
    ∷ no 16 ∷ no 16 ∷ no 16 ∷ no 16 ∷ [])
unfolding computes limits areas calls overrun
row19-records = refl
