-- Within the area the two numbers are set, and past its end the area is left.
use Rattle.tree.specs.NodeArea.{with_node}
use Rattle.tree.proofs.Area.{has-place, has-no-place}
use Rattle.tree.proofs.store_node.Goals as goal

pub returns-then-q-nodes : goal.returns-then-q-nodes
unfolding with_node
returns-then-q-nodes c = simp (has-no-place _ _ c.if-q-nodes.true)

pub returns : goal.returns
unfolding with_node
returns c = simp (has-place _ _ c.if-q-nodes.false)
