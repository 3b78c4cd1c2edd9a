-- Two lines from one shared version, a line from version 0, and the sixteenth line, by computation on the model.
-- The theorems that compute them stand in proofs/Example.
use Rattle.std.specs.Prelude.{List, [], ◌∷◌, ◌++◌, ℕ, replicate}
use Rattle.tree.specs.Tree.{height_from, root_height, meets, nodes, count, update, newest}
use Rattle.table.specs.Table.{unless, first_refusal, holds, begin_rows, put_rows, weave_rows}
use Rattle.table.specs.Table.{line_rows, publish_rows, window_rows, branch_rows, assign_rows, size_rows, read_rows, page_rows}
use Rattle.fields.specs.Fields.{field_number}
use Rattle.windows.specs.Windows.{inside_one, inside_some}
use Rattle.windows.specs.Listed.{entry_of, entry_by, all_windows, ended, windows_in, text_number}
use Rattle.model.specs.Calls.{Call, BEGIN, PUT, WEAVE, on, WRITE, APPEND, PUBLISH, BRANCH, READ, SIZE, RECENT, STAMP, VIEW, refused, ticket_is, put_done, version_is, node_is, published_is, waiting, line_is, filled, size_is, recent_is, stamp_is, part_is, Outcome, says}
use Rattle.model.specs.History.{all_filled, complete, due}
use Rattle.model.specs.InTurn.{applied, blob_at, joined}
use Rattle.model.specs.Stamp.{stamp_at}
use Rattle.model.specs.Model.{Limits, update_from}
use Rattle.model.specs.Layout.{layout}
use Rattle.model.specs.OnModel.{model_outcome, on_line, on_model}
use Rattle.model.specs.Run.{outcomes}

-- All that a list of calls computes with on the model: what unfolds this unfolds every definition listed here.
unfoldable pub computes : ℕ
unfolding outcomes on_model on_line model_outcome unless first_refusal holds line_rows publish_rows window_rows branch_rows begin_rows put_rows assign_rows weave_rows size_rows read_rows
    page_rows layout all_filled complete due applied blob_at joined stamp_at update_from height_from root_height meets nodes count update newest field_number inside_one inside_some entry_of
    entry_by all_windows ended windows_in text_number
computes = 0

unfoldable pub limits : Limits
limits = record { size = 16; pages = 8; nodes = 16; updates = 8 }

-- 16 bytes of one value.
abbrev pub page_of : ℕ → List ℕ
page_of x = replicate 16 x

-- Pages 0 and 1 as version 1 of line 0, from which line 1 begins; then page 1 anew on line 1 and page 0 anew on line 0, each as version 2.
unfoldable pub calls : List Call
calls =
    BEGIN 2
    ∷ PUT 1 0 (page_of 10)
    ∷ PUT 1 1 (page_of 11)
    ∷ on 0 (WRITE 1 0)
    ∷ on 0 (BRANCH 1)
    ∷ WEAVE 1
    ∷ WEAVE 1
    ∷ WEAVE 1
    ∷ on 0 (PUBLISH 0)
    ∷ on 0 (BRANCH 1)
    ∷ BEGIN 1
    ∷ BEGIN 1
    ∷ PUT 2 0 (page_of 21)
    ∷ PUT 3 0 (page_of 30)
    ∷ on 1 (WRITE 2 1)
    ∷ on 0 (WRITE 3 0)
    ∷ on 1 (WRITE 3 0)
    ∷ PUT 2 0 (page_of 22)
    ∷ on 2 (WRITE 3 0)
    ∷ on 2 (WRITE 4 0)
    ∷ WEAVE 2
    ∷ WEAVE 3
    ∷ WEAVE 2
    ∷ WEAVE 2
    ∷ on 1 (PUBLISH 0)
    ∷ on 0 (PUBLISH 0)
    ∷ on 0 (READ 2 0 1 (7 ∷ []))
    ∷ WEAVE 3
    ∷ on 0 (PUBLISH 0)
    ∷ []

-- A version of another line is named by that line's number and its own.
unfoldable pub given : List Outcome
given =
    says (ticket_is 1)
    ∷ says put_done
    ∷ says put_done
    ∷ says (version_is 1 3)
    ∷ says (refused 16)
    ∷ says (node_is 1 0 2 1 1 2)
    ∷ says (node_is 1 0 1 0 0 1)
    ∷ says (node_is 1 1 1 1 0 0)
    ∷ says (published_is 1)
    ∷ says (line_is 1)
    ∷ says (ticket_is 2)
    ∷ says (ticket_is 3)
    ∷ says put_done
    ∷ says put_done
    ∷ says (version_is 2 2)
    ∷ says (version_is 2 2)
    ∷ says (refused 8)
    ∷ says (refused 8)
    ∷ says (refused 8)
    ∷ says (refused 7)
    ∷ says (node_is 65538 0 2 1 65538 1)
    ∷ says (node_is 2 0 2 2 1 1)
    ∷ says (node_is 65538 1 1 2 0 0)
    ∷ says (refused 8)
    ∷ says (published_is 2)
    ∷ says waiting
    ∷ record { answer = refused 16; buffer = 7 ∷ [] }
    ∷ says (node_is 2 0 1 3 0 0)
    ∷ says (published_is 2)
    ∷ []

-- What the two lines then read as, and a page appended on line 1.
unfoldable pub more : List Call
more =
    on 0 (READ 2 14 4 (replicate 5 9))
    ∷ on 1 (READ 2 14 4 (replicate 5 9))
    ∷ on 1 (READ 1 14 4 (replicate 4 9))
    ∷ on 1 (READ 2 31 2 (replicate 4 9))
    ∷ on 1 (READ 2 14 4 (replicate 3 9))
    ∷ on 0 (VIEW 2 1)
    ∷ on 1 (VIEW 2 1)
    ∷ on 1 (VIEW 3 1)
    ∷ on 0 (STAMP 2 0)
    ∷ on 0 (STAMP 2 1)
    ∷ on 1 (STAMP 2 0)
    ∷ on 1 (STAMP 2 1)
    ∷ on 1 (STAMP 2 2)
    ∷ BEGIN 1
    ∷ on 2 (APPEND 4)
    ∷ on 1 (APPEND 4)
    ∷ PUT 4 0 (page_of 42)
    ∷ on 1 (WRITE 4 3)
    ∷ on 1 (APPEND 4)
    ∷ WEAVE 4
    ∷ WEAVE 4
    ∷ WEAVE 4
    ∷ on 1 (PUBLISH 0)
    ∷ on 0 (PUBLISH 0)
    ∷ on 0 RECENT
    ∷ on 1 RECENT
    ∷ on 0 (SIZE 2)
    ∷ on 1 (SIZE 2)
    ∷ on 1 (SIZE 3)
    ∷ on 0 (SIZE 3)
    ∷ on 2 (PUBLISH 0)
    ∷ on 2 RECENT
    ∷ on 2 (SIZE 0)
    ∷ on 2 (STAMP 0 0)
    ∷ on 2 (VIEW 0 0)
    ∷ on 2 (BRANCH 0)
    ∷ on 2 (READ 0 0 0 (7 ∷ []))
    ∷ on 1 (BRANCH 0)
    ∷ on 2 RECENT
    ∷ on 2 (SIZE 0)
    ∷ on 2 (READ 0 0 0 (7 ∷ []))
    ∷ on 2 (SIZE 1)
    ∷ on 2 (PUBLISH 0)
    ∷ BEGIN 1
    ∷ PUT 5 0 (page_of 50)
    ∷ on 2 (WRITE 5 1)
    ∷ on 2 (APPEND 5)
    ∷ WEAVE 5
    ∷ on 2 (PUBLISH 0)
    ∷ on 2 (VIEW 1 0)
    ∷ []

unfoldable pub given_more : List Outcome
given_more =
    record { answer = filled; buffer = 30 ∷ 30 ∷ 11 ∷ 11 ∷ 9 ∷ [] }
    ∷ record { answer = filled; buffer = 10 ∷ 10 ∷ 21 ∷ 21 ∷ 9 ∷ [] }
    ∷ record { answer = filled; buffer = 10 ∷ 10 ∷ 11 ∷ 11 ∷ [] }
    ∷ record { answer = refused 17; buffer = replicate 4 9 }
    ∷ record { answer = refused 18; buffer = replicate 3 9 }
    ∷ says (part_is (page_of 11))
    ∷ says (part_is (page_of 21))
    ∷ says (part_is [])
    ∷ says (stamp_is 2)
    ∷ says (stamp_is 1)
    ∷ says (stamp_is 1)
    ∷ says (stamp_is 2)
    ∷ says (refused 17)
    ∷ says (ticket_is 4)
    ∷ says (refused 20)
    ∷ says (refused 12)
    ∷ says put_done
    ∷ says (refused 13)
    ∷ says (version_is 3 3)
    ∷ says (node_is 65539 0 4 65538 65539 2)
    ∷ says (node_is 65539 2 2 65539 0 1)
    ∷ says (node_is 65539 2 1 4 0 0)
    ∷ says (published_is 3)
    ∷ says waiting
    ∷ says (recent_is 2)
    ∷ says (recent_is 3)
    ∷ says (size_is 32)
    ∷ says (size_is 32)
    ∷ says (size_is 48)
    ∷ says (refused 16)
    ∷ says (refused 20)
    ∷ says (refused 20)
    ∷ says (refused 20)
    ∷ says (refused 20)
    ∷ says (part_is [])
    ∷ says (refused 20)
    ∷ record { answer = refused 20; buffer = 7 ∷ [] }
    ∷ says (line_is 2)
    ∷ says (recent_is 0)
    ∷ says (size_is 0)
    ∷ record { answer = filled; buffer = 7 ∷ [] }
    ∷ says (refused 16)
    ∷ says waiting
    ∷ says (ticket_is 5)
    ∷ says put_done
    ∷ says (refused 13)
    ∷ says (version_is 1 1)
    ∷ says (node_is 131073 0 1 5 0 0)
    ∷ says (published_is 1)
    ∷ says (part_is (page_of 50))
    ∷ []

-- Sixteen lines at most; a version that is not published is refused before.
unfoldable pub branches : List Call
branches = replicate 15 (on 0 (BRANCH 0)) ++ on 15 (BRANCH 0) ∷ on 15 (BRANCH 1) ∷ on 16 (BRANCH 0) ∷ []

unfoldable pub given_branches : List Outcome
given_branches =
    says (line_is 1)
    ∷ says (line_is 2)
    ∷ says (line_is 3)
    ∷ says (line_is 4)
    ∷ says (line_is 5)
    ∷ says (line_is 6)
    ∷ says (line_is 7)
    ∷ says (line_is 8)
    ∷ says (line_is 9)
    ∷ says (line_is 10)
    ∷ says (line_is 11)
    ∷ says (line_is 12)
    ∷ says (line_is 13)
    ∷ says (line_is 14)
    ∷ says (line_is 15)
    ∷ says (refused 21)
    ∷ says (refused 16)
    ∷ says (refused 20)
    ∷ []
