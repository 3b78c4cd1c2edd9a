-- All that a run of calls computes with, named once: a computed example that unfolds `computes` unfolds every definition listed there, and those of the model.
use Rattle.std.specs.Prelude.{ℕ}
use Rattle.std.specs.Int.Count.{ones}
use Rattle.pages.specs.Pages.{put, part}
use Rattle.tree.specs.Tree.{size_at}
use Rattle.tree.specs.Place.{below, kth, first, index, halvings, node_numbered}
use Rattle.tree.specs.NodeArea.{node_at, with_node}
use Rattle.tree.specs.Contract.{root_span, root_in, height_in}
use Rattle.tree.specs.Walk.{has_node, reach_by}
use Rattle.lines.specs.Lines.{packed, owner_from, entry_at, with_entry}
use Rattle.register.specs.Register.{update_of, with_record, version_record, newest_own}
use Rattle.table.specs.Table.{or_else, format_rows}
use Rattle.windows.specs.Windows.{inside, placed}
use Rattle.model.specs.Example.{computes as on_the_model}
use Rattle.model.specs.Run.{run}
use Rattle.versions.specs.Store.{line_in}
use Rattle.versions.specs.Size.{bytes_by, size_number}
use Rattle.versions.specs.Recent.{recent_number}
use Rattle.format.specs.Format.{format_refusal}
use Rattle.begin.specs.Begin.{begin_refusal}
use Rattle.put.specs.Put.{bit_of, with_bit, put_refusal}
use Rattle.assign.specs.Assign.{assign_refusal}
use Rattle.weave.specs.Weave.{next_node, weave_refusal, older_number}
use Rattle.publish.specs.Publish.{publish_number, due_by}
use Rattle.branch.specs.Branch.{branch_number}
use Rattle.set_windows.specs.SetWindows.{set_number}
use Rattle.descent.specs.Places.{has_node_by, place_in}
use Rattle.walk.specs.FindPage.{reach_from, find_page, page_number_of}
use Rattle.read.specs.Read.{some_lost, read_number, byte_of, bytes_from}
use Rattle.stamp.specs.Stamp.{stamp_number, leaf_as_of, since_by}
use Rattle.demands.specs.Run.{store_outcome, on_line_of, on_store, formatted_state}

unfoldable pub computes : ℕ
unfolding on_the_model run store_outcome on_line_of on_store formatted_state or_else format_rows format_refusal begin_refusal bit_of with_bit put_refusal assign_refusal next_node weave_refusal
    newest_own older_number publish_number due_by branch_number set_number inside placed bytes_by size_number recent_number has_node_by place_in reach_from find_page page_number_of some_lost
    read_number byte_of bytes_from stamp_number leaf_as_of since_by put part packed line_in owner_from entry_at with_entry update_of with_record version_record with_node node_at has_node reach_by size_at
    below kth first index ones halvings node_numbered root_span root_in height_in
computes = 0
