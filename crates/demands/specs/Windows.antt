-- Blast windows, by computation: the model's examples on the calls' definitions; then, on both, the rows 22 to 24 in their order and at their bounds; and on areas that no
-- run left, 3 before all of them and 19 outside the windows alone.
use Rattle.std.specs.Prelude.{◌≡◌, refl, List, [], ◌∷◌, ◌++◌, replicate}
use Rattle.text.specs.Quoted.{text}
use Rattle.register.specs.Register.{no_record}
use Rattle.versions.specs.Store.{with_register}
use Rattle.model.specs.Calls.{Call, BEGIN, PUT, WEAVE, SETWINDOWS, on, APPEND, PUBLISH, RECENT, ticket_is, put_done, version_is, node_is, waiting, held, windows_done, recent_is, Outcome, says}
use Rattle.model.specs.Model.{no_model}
use Rattle.model.specs.OnModel.{on_model}
use Rattle.model.specs.Run.{run, outcomes}
use Rattle.model.specs.Due.{publishes}
use Rattle.model.specs.Example.{limits, page_of}
use Rattle.model.specs.Windows.{two_windows, lines, edges, given_edges, due, given_due, lists, given_lists, minutes, given_minutes}
use Rattle.demands.specs.Computes.{computes}
use Rattle.demands.specs.Run.{State, on_store, formatted_state, store_after}
use Rattle.demands.specs.Rows.{no, with_areas}
use Rattle.demands.specs.Lines.{areas}

-- ---- the model's examples

pub edges-by-calls : outcomes on_store (formatted_state limits areas) edges ≡ given_edges
unfolding computes limits areas edges given_edges
edges-by-calls = refl

pub due-by-calls : outcomes on_store (formatted_state limits areas) due ≡ given_due
unfolding computes limits areas due given_due
due-by-calls = refl

pub lists-by-calls : outcomes on_store (formatted_state limits areas) lists ≡ given_lists
unfolding computes limits areas lists given_lists
lists-by-calls = refl

pub minutes-by-calls : outcomes on_store (formatted_state limits areas) minutes ≡ given_minutes
unfolding computes limits areas minutes given_minutes
minutes-by-calls = refl

-- ---- the order of the rows, and their bounds

-- The week's first and last minute as windows. Then 32 windows, of which the last is one of its own; 33; and 33 lines of which the last, or the first, is malformed.
unfoldable pub bounds : List Call
bounds =
    SETWINDOWS (text "0,1\n10079,0\n")
    ∷ on 0 (PUBLISH 10078)
    ∷ on 0 (PUBLISH 10079)
    ∷ on 0 (PUBLISH 0)
    ∷ on 0 (PUBLISH 1)
    ∷ on 0 (PUBLISH 10080)
    ∷ on 1 (PUBLISH 10079)
    ∷ on 1 (PUBLISH 10080)
    ∷ SETWINDOWS (lines 31 ++ text "5000,5001\n")
    ∷ on 0 (PUBLISH 10079)
    ∷ on 0 (PUBLISH 1)
    ∷ on 0 (PUBLISH 5000)
    ∷ on 0 (PUBLISH 5001)
    ∷ SETWINDOWS (lines 33)
    ∷ SETWINDOWS (lines 32 ++ text "7,7\n")
    ∷ SETWINDOWS (text "7\n" ++ lines 32)
    ∷ on 0 (PUBLISH 5000)
    ∷ on 0 (PUBLISH 7)
    ∷ []

-- In order: the two minutes held, and those beside them not; 22 before held, 20 before held and 20 before 22; the new windows alone hold, the 32nd too; 24; 23 before
-- 24, twice; and the windows are as they were.
unfoldable pub given_bounds : List Outcome
given_bounds =
    says windows_done
    ∷ says waiting
    ∷ says held
    ∷ says held
    ∷ says waiting
    ∷ no 22
    ∷ no 20
    ∷ no 20
    ∷ says windows_done
    ∷ says waiting
    ∷ says held
    ∷ says held
    ∷ says waiting
    ∷ no 24
    ∷ no 23
    ∷ no 23
    ∷ says held
    ∷ says waiting
    ∷ []

pub bounds-by-model : outcomes (on_model limits) no_model bounds ≡ given_bounds
unfolding computes limits bounds given_bounds
bounds-by-model = refl

pub bounds-by-calls : outcomes on_store (formatted_state limits areas) bounds ≡ given_bounds
unfolding computes limits areas bounds given_bounds
bounds-by-calls = refl

-- ---- what PUBLISH holds: nothing assigned, a version that is not complete, and one that is

unfoldable pub stages : List Call
stages =
    SETWINDOWS two_windows
    ∷ on 0 (PUBLISH 10000)
    ∷ BEGIN 1
    ∷ PUT 1 0 (page_of 10)
    ∷ on 0 (APPEND 1)
    ∷ on 0 (PUBLISH 10000)
    ∷ on 0 (PUBLISH 9999)
    ∷ WEAVE 1
    ∷ on 0 (PUBLISH 10000)
    ∷ on 0 RECENT
    ∷ []

unfoldable pub given_stages : List Outcome
given_stages =
    says windows_done
    ∷ says held
    ∷ says (ticket_is 1)
    ∷ says put_done
    ∷ says (version_is 1 1)
    ∷ says held
    ∷ says waiting
    ∷ says (node_is 1 0 1 0 0 0)
    ∷ says held
    ∷ says (recent_is 0)
    ∷ []

pub stages-by-model : outcomes (on_model limits) no_model stages ≡ given_stages
unfolding computes limits stages given_stages
stages-by-model = refl

pub stages-by-calls : outcomes on_store (formatted_state limits areas) stages ≡ given_stages
unfolding computes limits areas stages given_stages
stages-by-calls = refl

-- ---- rows 3 and 19 on areas that no run left, with version 1 due

-- An area's length differs: 3 before 23, 24, 20, 22 and held, and nothing moves.
unfoldable pub longer : State
longer = with_areas (store_after limits areas stages) (λ a. with_register a (no_record ∷ a.register))

abbrev refusals : List Call
refusals = SETWINDOWS [] ∷ SETWINDOWS (text "7,7\n") ∷ SETWINDOWS (lines 33) ∷ on 1 (PUBLISH 0) ∷ on 0 (PUBLISH 10080) ∷ on 0 (PUBLISH 10000) ∷ []

pub row3-first :
    outcomes on_store longer refusals ≡ (no 3 ∷ no 3 ∷ no 3 ∷ no 3 ∷ no 3 ∷ no 3 ∷ [])
    × run on_store longer refusals ≡ longer
unfolding computes limits areas stages longer
row3-first = (refl, refl)

-- Version 1's record is lost: 19 where PUBLISH looks at it, which is outside the windows, and last: with no window 22 is before it. SETWINDOWS looks at no record.
unfoldable pub lost_record : State
lost_record = with_areas (store_after limits areas stages) (λ a. with_register a (replicate 8 no_record))

pub row19-outside :
    outcomes on_store lost_record
    (publishes 0 (599 ∷ 600 ∷ 659 ∷ 660 ∷ 9999 ∷ 10000 ∷ 10079 ∷ 0 ∷ 19 ∷ 20 ∷ 10080 ∷ [])
    ++ (on 1 (PUBLISH 20) ∷ SETWINDOWS [] ∷ on 0 (PUBLISH 600) ∷ on 0 (PUBLISH 10080) ∷ []))
    ≡ (no 19 ∷ says held ∷ says held ∷ no 19 ∷ no 19 ∷ says held ∷ says held ∷ says held ∷ says held ∷ no 19 ∷ no 22 ∷ no 20 ∷ says windows_done ∷ no 19 ∷ no 22 ∷ [])
unfolding computes limits areas stages lost_record
row19-outside = refl
