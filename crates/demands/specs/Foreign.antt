-- Stores that no run left, on the calls' definitions: rows in an order that no formatted store shows, and row 19 for each thing that a call would use past its area.
-- (Rows has 3 and 19 over a run's store with other areas, Windows has those of PUBLISH, and Stamps what STAMP finds on the way down.)
use Rattle.std.specs.Prelude.{◌≡◌, refl, List, [], ◌∷◌, ◌++◌, ℕ, length, replicate}
use Rattle.tree.specs.NodeArea.{all_ones, with_node}
use Rattle.register.specs.Register.{no_record}
use Rattle.register.specs.declared.Record.{Record}
use Rattle.model.specs.Calls.{Call, BEGIN, PUT, WEAVE, on, WRITE, APPEND, BRANCH, READ, SIZE, version_is, node_is, filled, says}
use Rattle.model.specs.History.{Page}
use Rattle.model.specs.Run.{outcomes}
use Rattle.model.specs.Example.{limits, page_of, branches}
use Rattle.model.specs.Stamps.{puts, sends}
use Rattle.versions.specs.Store.{areas_of, with_register}
use Rattle.format.specs.Format.{fresh}
use Rattle.begin.specs.Begin.{with_ticket_part}
use Rattle.put.specs.Put.{with_put}
use Rattle.assign.specs.Assign.{with_update_of, with_update_part}
use Rattle.demands.specs.Computes.{computes}
use Rattle.demands.specs.Run.{State, state_with, on_store, store_after, asked}
use Rattle.demands.specs.Rows.{page, no, no_read, line_with, store_with, with_areas, nodes_by}
use Rattle.demands.specs.Lines.{areas, words}

-- ---- a store of one page, one node place and two records

-- So many tickets, so many updates on all lines, so many versions of line 0, and its register.
abbrev small : ℕ → ℕ → ℕ → List Record → State
small tickets updates versions register =
    state_with (store_with (fresh 16 1 1 2) tickets 1 updates 0 (line_with versions 0 0)) (areas_of page (0 ∷ 0 ∷ []) register)

-- A ticket of one page, put, with its page number; and with update k, which is page 0 as version 1 of line 0, its node at a place.
abbrev put_at : ℕ → Record
put_at number = with_put (with_ticket_part no_record 1 number) 0

abbrev assigned_at : ℕ → ℕ → ℕ → Record
assigned_at number k place = with_update_part (with_update_of (put_at number) k) 1 1 0 0 1 place

-- 7 before 8: the record after the last ticket's has an update.
pub no-ticket : outcomes on_store (small 1 0 0 (put_at 0 ∷ assigned_at 0 1 0 ∷ [])) (PUT 2 0 page ∷ on 0 (APPEND 2) ∷ WEAVE 2 ∷ []) ≡ (no 7 ∷ no 7 ∷ no 7 ∷ [])
unfolding computes
no-ticket = refl

-- A bit above the ticket's one page: 9 before 10; and the low n bits decide, in 10 as in 12.
pub stray-bits :
    outcomes on_store (small 1 0 0 (with_put (put_at 0) 1 ∷ no_record ∷ [])) (PUT 1 1 page ∷ PUT 1 0 page ∷ on 0 (APPEND 1) ∷ [])
    ≡ (no 9 ∷ no 10 ∷ says (version_is 1 1) ∷ [])
unfolding computes
stray-bits = refl

-- PUT's 19: the page number lies past the page area.
pub put-page : asked (small 1 0 0 (with_ticket_part no_record 1 1 ∷ no_record ∷ [])) (PUT 1 0 page) ≡ no 19
unfolding computes
put-page = refl

-- ASSIGN's 19: the ticket's record, that of the next update, or that of the line's next version lies past the register. One lower, each is there.
pub assign-records :
    asked (small 3 0 0 (put_at 0 ∷ no_record ∷ [])) (on 0 (APPEND 3)) ≡ no 19
    × asked (small 1 2 0 (put_at 0 ∷ no_record ∷ [])) (on 0 (APPEND 1)) ≡ no 19
    × asked (small 1 0 2 (put_at 0 ∷ no_record ∷ [])) (on 0 (APPEND 1)) ≡ no 19
    × asked (small 2 1 1 (no_record ∷ put_at 0 ∷ [])) (on 0 (APPEND 2)) ≡ says (version_is 2 1)
unfolding computes
assign-records = (refl, refl, refl, refl)

-- WEAVE's 19: the update's record lies past the register, which is not 8, though nothing is left to weave where there is no record; the node's place past the node area;
-- a leaf's page number past the page area. Where each is there the node is woven.
pub weave-past :
    asked (small 1 1 1 (assigned_at 0 3 0 ∷ no_record ∷ [])) (WEAVE 1) ≡ no 19
    × asked (small 1 1 1 (assigned_at 0 1 1 ∷ no_record ∷ [])) (WEAVE 1) ≡ no 19
    × asked (small 1 1 1 (assigned_at 1 1 0 ∷ no_record ∷ [])) (WEAVE 1) ≡ no 19
    × asked (small 1 1 1 (assigned_at 0 1 0 ∷ no_record ∷ [])) (WEAVE 1) ≡ says (node_is 1 0 1 0 0 0)
unfolding computes
weave-past = (refl, refl, refl, refl)

-- ---- a run's store with a node that is not stored

-- Pages 0 and 1 as version 1, published: its root and leaves lie at node places 0 to 2.
unfoldable pub pair : List Call
pair = sends 0 1 0 (page_of 10 ∷ page_of 11 ∷ []) 3

-- And these pages from page f on as version 2, which is to be woven.
abbrev rewritten : ℕ → List Page → List Call
rewritten f pages = pair ++ BEGIN (length pages) ∷ puts 2 0 pages ++ on 0 (WRITE 2 f) ∷ []

-- The state that such calls leave, with the node at a place not stored.
abbrev without : ℕ → List Call → State
without place cs = with_areas (store_after limits areas cs) (nodes_by (λ x. with_node x place all_ones all_ones))

-- WEAVE's 19: the walk for the half that version 2 does not meet, the right one or the left one, is lost at version 1's root. For halves that it meets there is no walk.
pub weave-walk :
    asked (without 0 (rewritten 0 (page ∷ []))) (WEAVE 2) ≡ no 19
    × asked (without 0 (rewritten 1 (page ∷ []))) (WEAVE 2) ≡ no 19
    × asked (without 0 (rewritten 0 (page ∷ page ∷ []))) (WEAVE 2) ≡ says (node_is 2 0 2 2 2 2)
unfolding computes limits areas pair
weave-walk = (refl, refl, refl)

-- READ's 19 is for each page that the range touches and for no other: the leaf of page 1 is lost, or that of page 0.
pub read-pages :
    outcomes on_store (without 2 pair) (on 0 (READ 1 15 2 (9 ∷ 9 ∷ [])) ∷ on 0 (READ 1 15 1 (9 ∷ [])) ∷ [])
    ≡ (no_read 19 (9 ∷ 9 ∷ []) ∷ record { answer = filled; buffer = 10 ∷ [] } ∷ [])
    × outcomes on_store (without 1 pair) (on 0 (READ 1 15 2 (9 ∷ 9 ∷ [])) ∷ on 0 (READ 1 16 1 (9 ∷ [])) ∷ [])
    ≡ (no_read 19 (9 ∷ 9 ∷ []) ∷ record { answer = filled; buffer = 11 ∷ [] } ∷ [])
unfolding computes limits areas pair
read-pages = (refl, refl)

-- ---- sixteen lines and no record

-- BRANCH's 21 before 19: version 1 of line 15 is published, and its record is lost.
pub full-lost :
    outcomes on_store (with_areas (store_after limits areas (branches ++ words)) (λ a. with_register a (replicate 8 no_record))) (on 15 (BRANCH 1) ∷ on 15 (SIZE 1) ∷ [])
    ≡ (no 21 ∷ no 19 ∷ [])
unfolding computes limits areas branches words
full-lost = refl
