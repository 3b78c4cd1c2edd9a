-- The lines of the model's example on the calls' definitions, by computation: two lines from one shared version, a line from version 0, and the sixteenth line;
-- then, on both, a line from a line, and what both lines give back of what they share.
-- The theorems two-lines, words-by-calls and third-by-calls stand in proofs/LinesByCalls.
use Rattle.std.specs.Prelude.{◌≡◌, refl, List, [], ◌∷◌, ◌++◌, get_or, replicate}
use Rattle.register.specs.Register.{no_record, with_record}
use Rattle.model.specs.Calls.{Call, BEGIN, PUT, WEAVE, on, WRITE, APPEND, PUBLISH, BRANCH, READ, SIZE, RECENT, STAMP, VIEW, ticket_is, put_done, version_is, node_is, published_is, waiting, line_is, filled, size_is, recent_is, stamp_is, part_is, Outcome, says}
use Rattle.model.specs.OnModel.{on_model}
use Rattle.model.specs.Run.{outcomes, model_after}
use Rattle.model.specs.Example.{limits, page_of, calls, more, branches, given_branches}
use Rattle.model.specs.Trees.{nodes_after}
use Rattle.model.specs.Snapshot.{Tree, no_page, leaf, inner, tree_of, tree_in, place_of_number, tree_at}
use Rattle.versions.specs.Store.{Areas, with_register}
use Rattle.assign.specs.Assign.{with_entry_of}
use Rattle.demands.specs.Computes.{computes}
use Rattle.demands.specs.Run.{State, on_store, formatted_state, store_after}
use Rattle.demands.specs.Rows.{no, no_read, with_areas}

unfoldable pub areas : Areas
areas = record { pages = replicate 128 1; nodes = replicate 32 1; register = replicate 8 no_record }

pub sixteen : outcomes on_store (formatted_state limits areas) branches ≡ given_branches
unfolding computes limits areas branches given_branches
sixteen = refl

-- The nodes of all lines, each version's after those of the update before it, in the order of ASSIGN.
pub nodes-of-all : (store_after limits areas (calls ++ more)).areas.nodes ≡ nodes_after
unfolding computes limits areas calls more nodes_after
nodes-of-all = refl

-- Then version 1 of line 15, of line 9 and of line 4: record 1 has an entry for each, in a word of its own.
unfoldable pub words : List Call
words =
    BEGIN 1
    ∷ BEGIN 1
    ∷ BEGIN 1
    ∷ PUT 1 0 (page_of 4)
    ∷ PUT 2 0 (page_of 9)
    ∷ PUT 3 0 (page_of 15)
    ∷ on 15 (APPEND 3)
    ∷ on 9 (APPEND 2)
    ∷ on 4 (APPEND 1)
    ∷ WEAVE 1
    ∷ WEAVE 2
    ∷ WEAVE 3
    ∷ on 4 (PUBLISH 0)
    ∷ on 9 (PUBLISH 0)
    ∷ on 15 (PUBLISH 0)
    ∷ on 4 (VIEW 1 0)
    ∷ on 9 (VIEW 1 0)
    ∷ on 15 (VIEW 1 0)
    ∷ on 14 (VIEW 1 0)
    ∷ on 15 (BRANCH 1)
    ∷ on 16 (BRANCH 1)
    ∷ []

unfoldable pub given_words : List Outcome
given_words =
    says (ticket_is 1)
    ∷ says (ticket_is 2)
    ∷ says (ticket_is 3)
    ∷ says put_done
    ∷ says put_done
    ∷ says put_done
    ∷ says (version_is 1 1)
    ∷ says (version_is 1 1)
    ∷ says (version_is 1 1)
    ∷ says (node_is 262145 0 1 0 0 0)
    ∷ says (node_is 589825 0 1 1 0 0)
    ∷ says (node_is 983041 0 1 2 0 0)
    ∷ says (published_is 1)
    ∷ says (published_is 1)
    ∷ says (published_is 1)
    ∷ says (part_is (page_of 4))
    ∷ says (part_is (page_of 9))
    ∷ says (part_is (page_of 15))
    ∷ says (part_is [])
    ∷ no 21
    ∷ no 20
    ∷ []

pub words-by-model : outcomes (on_model limits) (model_after limits branches) words ≡ given_words
unfolding computes limits branches words given_words
words-by-model = refl

-- ---- what lines 0 and 1 share, and line 3 from version 3 of line 1

-- Version 1 by both lines; line 0 has two pages, and lines 1 and 3 have three. Line 3 writes page 1 as its version 4.
unfoldable pub third : List Call
third =
    on 0 (READ 1 14 4 (replicate 4 9))
    ∷ on 1 (READ 1 14 4 (replicate 4 9))
    ∷ on 0 (SIZE 1)
    ∷ on 1 (SIZE 1)
    ∷ on 0 (STAMP 1 1)
    ∷ on 1 (STAMP 1 1)
    ∷ on 0 (VIEW 1 1)
    ∷ on 1 (VIEW 1 1)
    ∷ on 0 (BRANCH 3)
    ∷ on 3 (BRANCH 3)
    ∷ on 1 (BRANCH 3)
    ∷ BEGIN 1
    ∷ PUT 6 0 (page_of 60)
    ∷ on 0 (WRITE 6 3)
    ∷ on 3 (WRITE 6 4)
    ∷ on 3 (WRITE 6 1)
    ∷ WEAVE 6
    ∷ WEAVE 6
    ∷ on 3 (PUBLISH 0)
    ∷ on 3 (BRANCH 4)
    ∷ on 3 (READ 4 0 1 (7 ∷ []))
    ∷ WEAVE 6
    ∷ on 1 (PUBLISH 0)
    ∷ on 3 (PUBLISH 0)
    ∷ on 3 (PUBLISH 0)
    ∷ on 0 RECENT
    ∷ on 1 RECENT
    ∷ on 3 RECENT
    ∷ on 1 (SIZE 4)
    ∷ on 3 (READ 4 0 48 (replicate 48 9))
    ∷ on 3 (READ 3 14 4 (replicate 4 9))
    ∷ on 1 (READ 3 14 4 (replicate 4 9))
    ∷ on 3 (STAMP 4 0)
    ∷ on 3 (STAMP 4 1)
    ∷ on 3 (STAMP 4 2)
    ∷ on 3 (STAMP 3 1)
    ∷ on 1 (STAMP 3 1)
    ∷ on 3 (VIEW 3 1)
    ∷ on 1 (VIEW 3 1)
    ∷ on 3 (VIEW 4 3)
    ∷ on 3 (BRANCH 4)
    ∷ []

-- Version 4 of line 3 is numbered 196,612; its children are of lines 3 and 1, and of lines 0 and 3.
unfoldable pub given_third : List Outcome
given_third =
    record { answer = filled; buffer = 10 ∷ 10 ∷ 11 ∷ 11 ∷ [] }
    ∷ record { answer = filled; buffer = 10 ∷ 10 ∷ 11 ∷ 11 ∷ [] }
    ∷ says (size_is 32)
    ∷ says (size_is 32)
    ∷ says (stamp_is 1)
    ∷ says (stamp_is 1)
    ∷ says (part_is (page_of 11))
    ∷ says (part_is (page_of 11))
    ∷ no 16
    ∷ no 20
    ∷ says (line_is 3)
    ∷ says (ticket_is 6)
    ∷ says put_done
    ∷ no 13
    ∷ no 13
    ∷ says (version_is 4 3)
    ∷ says (node_is 196612 0 4 196612 65539 2)
    ∷ says (node_is 196612 0 2 1 196612 1)
    ∷ says waiting
    ∷ no 16
    ∷ no_read 16 (7 ∷ [])
    ∷ says (node_is 196612 1 1 6 0 0)
    ∷ says waiting
    ∷ says (published_is 4)
    ∷ says waiting
    ∷ says (recent_is 2)
    ∷ says (recent_is 3)
    ∷ says (recent_is 4)
    ∷ no 16
    ∷ record { answer = filled; buffer = page_of 10 ++ (page_of 60 ++ page_of 42) }
    ∷ record { answer = filled; buffer = 10 ∷ 10 ∷ 21 ∷ 21 ∷ [] }
    ∷ record { answer = filled; buffer = 10 ∷ 10 ∷ 21 ∷ 21 ∷ [] }
    ∷ says (stamp_is 1)
    ∷ says (stamp_is 4)
    ∷ says (stamp_is 3)
    ∷ says (stamp_is 2)
    ∷ says (stamp_is 2)
    ∷ says (part_is (page_of 21))
    ∷ says (part_is (page_of 21))
    ∷ says (part_is [])
    ∷ says (line_is 4)
    ∷ []

pub third-by-model : outcomes (on_model limits) (model_after limits (calls ++ more)) third ≡ given_third
unfolding computes limits calls more third given_third
third-by-model = refl

-- The tree of version 4 of line 3, which is version 4 of line 4 too: nodes of lines 3, 0 and 1, each by its own number.
abbrev tree : Tree
tree =
    inner 196612 0 2 196612 65539
    (inner 196612 0 1 1 196612 (leaf 1 0 0 0) (leaf 196612 1 6 0))
    (inner 65539 2 1 65539 0 (leaf 65539 2 4 0) no_page)

pub tree-by-rule :
    tree_at (model_after limits (calls ++ (more ++ third))) 3 4 ≡ tree
    × tree_at (model_after limits (calls ++ (more ++ third))) 4 4 ≡ tree
unfolding computes limits calls more third tree_of
tree-by-rule = (refl, refl)

pub tree-by-area :
    tree_in (place_of_number (model_after limits (calls ++ (more ++ third)))) (store_after limits areas (calls ++ (more ++ third))).areas.nodes 2 196612 0 ≡ tree
unfolding computes limits areas calls more third tree_in place_of_number
tree-by-area = refl

-- ---- row 19 by a line's entry

-- Version 2 of line 0 is the third update, which record 2's entry of line 0 alone names; here that entry is lost. Version 2 of line 1 is the second update.
unfoldable pub forgotten : State
forgotten =
    with_areas (store_after limits areas (calls ++ more)) λ a.
    with_register a (with_record a.register 1 (with_entry_of (get_or a.register 1 no_record) 0 0))

pub row19-entries :
    outcomes on_store forgotten
    (on 0 (BRANCH 2) ∷ on 0 (READ 2 0 1 (9 ∷ [])) ∷ on 0 (SIZE 2) ∷ on 0 (STAMP 2 0) ∷ on 0 (VIEW 2 0) ∷ on 0 (SIZE 1) ∷ on 1 (SIZE 2) ∷ [])
    ≡ (no 19 ∷ no_read 19 (9 ∷ []) ∷ no 19 ∷ no 19 ∷ says (part_is []) ∷ says (size_is 32) ∷ says (size_is 32) ∷ [])
unfolding computes limits areas calls more forgotten
row19-entries = refl
