-- The node that `node_by_number` finds is the next.
use Rattle.std.proofs.Common.{◌≡◌, ◌∙◌}
use Rattle.tree.specs.Contract.{height_in}
use Rattle.tree.proofs.Word.{root-in}
use Rattle.weave.specs.Weave.{next_node}
use Rattle.weave.specs.Next.{name_of}
use Rattle.weave.proofs.Room.{next-named, named-inside}
use Rattle.weave.proofs.next_node.Goals as goal

pub halves_of-requires : goal.halves_of-requires
halves_of-requires c = named-inside _ _ _ _ c.extent_of.ensures c.root_within-root.ensures c.node_by_number-node.ensures

pub invariant_of-result : goal.invariant_of-result
invariant_of-result c =
    let q = c.args.part in
    let named : c.node_by_number-node.result ≡ name_of (next_node q) =
    next-named q _ _ _ c.extent_of.ensures c.root_within-root.ensures c.node_by_number-node.ensures in
    let height = c.height_of.ensures (height_in q.span) (c.root_within-root.ensures ∙ root-in q.span) in
    record {
      named = named;
      parted = c.halves_of.ensures (next_node q) named;
      placed = c.saturating_add.ensures ∙ rw (c.saturating_sub-start.ensures, height);
    }
