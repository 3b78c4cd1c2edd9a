-- The table's order and its bounds, by computation: of two neighbouring rows that both hold the upper one answers, and a call at a bound is accepted.
use Rattle.std.specs.Prelude.{◌≡◌, refl, List, [], ◌∷◌, ℕ, replicate}
use Rattle.register.specs.Register.{no_record}
use Rattle.model.specs.Calls.{Call, BEGIN, PUT, WEAVE, on, WRITE, APPEND, PUBLISH, BRANCH, READ, SIZE, RECENT, STAMP, VIEW, ticket_is, put_done, version_is, node_is, published_is, line_is, filled, size_is, recent_is, stamp_is, part_is, Outcome, says}
use Rattle.model.specs.Model.{Limits, no_model}
use Rattle.model.specs.OnModel.{on_model}
use Rattle.model.specs.Run.{outcomes}
use Rattle.versions.specs.Store.{Areas}
use Rattle.demands.specs.Computes.{computes}
use Rattle.demands.specs.Run.{on_store, formatted_state}
use Rattle.demands.specs.Rows.{page, no, no_read, full_limits, full_model, full_state}

-- An update of 64 pages and one of two use every record and every page number; the second has as many nodes as there are places.
unfoldable pub limits : Limits
limits = record { size = 16; pages = 66; nodes = 3; updates = 2 }

unfoldable pub areas : Areas
areas = record { pages = replicate 1056 1; nodes = replicate 6 1; register = replicate 2 no_record }

-- A page's bytes, one short and one too many.
abbrev short : List ℕ
short = replicate 15 5

abbrev long : List ℕ
long = replicate 17 5

unfoldable pub calls : List Call
calls =
    BEGIN 64
    ∷ BEGIN 3
    ∷ BEGIN 2
    ∷ BEGIN 0
    ∷ BEGIN 65
    ∷ BEGIN 1
    ∷ PUT 2 2 short
    ∷ PUT 2 1 page
    ∷ PUT 2 1 short
    ∷ PUT 2 0 short
    ∷ PUT 2 0 long
    ∷ on 0 (WRITE 2 1)
    ∷ PUT 2 0 page
    ∷ on 0 (WRITE 2 1)
    ∷ on 0 (WRITE 2 0)
    ∷ PUT 2 2 short
    ∷ on 0 (READ 1 32 1 [])
    ∷ on 0 (STAMP 1 2)
    ∷ WEAVE 2
    ∷ WEAVE 2
    ∷ WEAVE 2
    ∷ WEAVE 2
    ∷ on 0 (PUBLISH 0)
    ∷ on 0 (READ 1 32 1 [])
    ∷ on 0 (READ 1 31 1 [])
    ∷ on 0 (READ 1 31 1 (9 ∷ []))
    ∷ on 0 (READ 1 32 0 [])
    ∷ on 0 (STAMP 1 2)
    ∷ on 0 (STAMP 1 1)
    ∷ on 0 (SIZE 1)
    ∷ []

-- In order: 64 pages; 6; two pages; 4 before 5 and 6, twice; 5 before 6; 9 before 11; the last page of two; 10 before 11; 11 for a byte too few and one too many; 12
-- before 13; a page; 13; a write at the size, with all node places; 8 before 9 and 11; 16 before 17 and 18; 16 before 17; three nodes; 8, where no place is left either; 17
-- before 18; 18; a READ up to the end, and of nothing at the end; 17; the last page.
unfoldable pub given : List Outcome
given =
    says (ticket_is 1)
    ∷ no 6
    ∷ says (ticket_is 2)
    ∷ no 4
    ∷ no 4
    ∷ no 5
    ∷ no 9
    ∷ says put_done
    ∷ no 10
    ∷ no 11
    ∷ no 11
    ∷ no 12
    ∷ says put_done
    ∷ no 13
    ∷ says (version_is 1 3)
    ∷ no 8
    ∷ no_read 16 []
    ∷ no 16
    ∷ says (node_is 1 0 2 1 1 2)
    ∷ says (node_is 1 0 1 64 0 1)
    ∷ says (node_is 1 1 1 65 0 0)
    ∷ no 8
    ∷ says (published_is 1)
    ∷ no_read 17 []
    ∷ no_read 18 []
    ∷ record { answer = filled; buffer = 5 ∷ [] }
    ∷ record { answer = filled; buffer = [] }
    ∷ no 17
    ∷ says (stamp_is 1)
    ∷ says (size_is 32)
    ∷ []

pub bounds-by-model : outcomes (on_model limits) no_model calls ≡ given
unfolding computes limits calls given
bounds-by-model = refl

pub bounds-by-calls : outcomes on_store (formatted_state limits areas) calls ≡ given
unfolding computes limits areas calls given
bounds-by-calls = refl

-- 14 before 15: the blob of 4,096 pages of row 14, with one node place. A write of its last page is within 4,096 pages, and 15 answers.
pub crowded-by-model : outcomes (on_model (full_limits 1)) full_model (on 0 (APPEND 1) ∷ on 0 (WRITE 1 4095) ∷ []) ≡ (no 14 ∷ no 15 ∷ [])
unfolding computes full_limits full_model
crowded-by-model = refl

pub crowded-by-calls : outcomes on_store (full_state 1) (on 0 (APPEND 1) ∷ on 0 (WRITE 1 4095) ∷ []) ≡ (no 14 ∷ no 15 ∷ [])
unfolding computes full_state
crowded-by-calls = refl

-- ---- a store with nothing in it

-- Tickets count from 1, and one past the last is none: 7 of PUT, ASSIGN and WEAVE. On a line that has not begun 20 is before 16, of READ before 17 and 18 and of STAMP before
-- 17 too, and VIEW gives the empty part. Version 0 is published and empty: SIZE says 0, a READ of nothing is accepted, and 17 is for a byte of it or a page.
unfoldable pub early : List Call
early =
    PUT 0 0 page
    ∷ PUT 1 0 page
    ∷ on 0 (WRITE 0 0)
    ∷ on 0 (WRITE 1 0)
    ∷ WEAVE 0
    ∷ WEAVE 1
    ∷ on 1 (SIZE 1)
    ∷ on 1 (READ 1 0 1 [])
    ∷ on 1 (STAMP 1 0)
    ∷ on 1 (VIEW 1 0)
    ∷ on 1 (BRANCH 1)
    ∷ on 1 (PUBLISH 0)
    ∷ on 1 RECENT
    ∷ on 0 (SIZE 0)
    ∷ on 0 (READ 0 0 0 [])
    ∷ on 0 (READ 0 0 1 [])
    ∷ on 0 (STAMP 0 0)
    ∷ on 0 (VIEW 0 0)
    ∷ on 0 RECENT
    ∷ []

unfoldable pub given_early : List Outcome
given_early =
    no 7
    ∷ no 7
    ∷ no 7
    ∷ no 7
    ∷ no 7
    ∷ no 7
    ∷ no 20
    ∷ no_read 20 []
    ∷ no 20
    ∷ says (part_is [])
    ∷ no 20
    ∷ no 20
    ∷ no 20
    ∷ says (size_is 0)
    ∷ says filled
    ∷ no_read 17 []
    ∷ no 17
    ∷ says (part_is [])
    ∷ says (recent_is 0)
    ∷ []

pub early-by-model : outcomes (on_model limits) no_model early ≡ given_early
unfolding computes limits early given_early
early-by-model = refl

pub early-by-calls : outcomes on_store (formatted_state limits areas) early ≡ given_early
unfolding computes limits areas early given_early
early-by-calls = refl

-- ---- row 15 on two lines

-- Room for three updates, of four nodes together.
unfoldable pub few_limits : Limits
few_limits = record { size = 16; pages = 4; nodes = 4; updates = 3 }

unfoldable pub few_areas : Areas
few_areas = record { pages = replicate 64 1; nodes = replicate 8 1; register = replicate 3 no_record }

-- Line 0 takes three of the four places. Its next update would take two, one too many: 15. Line 1's takes the last. Then 15 on both lines: the places of all lines count,
-- and not a line's alone.
unfoldable pub few : List Call
few =
    on 0 (BRANCH 0)
    ∷ BEGIN 2
    ∷ PUT 1 0 page
    ∷ PUT 1 1 page
    ∷ on 0 (APPEND 1)
    ∷ BEGIN 1
    ∷ PUT 2 0 page
    ∷ on 0 (WRITE 2 1)
    ∷ on 1 (APPEND 2)
    ∷ BEGIN 1
    ∷ PUT 3 0 page
    ∷ on 0 (WRITE 3 0)
    ∷ on 1 (WRITE 3 0)
    ∷ []

unfoldable pub given_few : List Outcome
given_few =
    says (line_is 1)
    ∷ says (ticket_is 1)
    ∷ says put_done
    ∷ says put_done
    ∷ says (version_is 1 3)
    ∷ says (ticket_is 2)
    ∷ says put_done
    ∷ no 15
    ∷ says (version_is 1 1)
    ∷ says (ticket_is 3)
    ∷ says put_done
    ∷ no 15
    ∷ no 15
    ∷ []

pub few-by-model : outcomes (on_model few_limits) no_model few ≡ given_few
unfolding computes few_limits few given_few
few-by-model = refl

pub few-by-calls : outcomes on_store (formatted_state few_limits few_areas) few ≡ given_few
unfolding computes few_limits few_areas few given_few
few-by-calls = refl
