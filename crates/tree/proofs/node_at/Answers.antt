-- A place within the area holds its two numbers, or no node where both are all ones.
use Rattle.std.proofs.Common.{eq-eqb, ne_eqb}
use mathlib.Core.Bool.{and-false}
use Rattle.tree.specs.NodeArea.{node_at}
use Rattle.tree.proofs.Area.{has-place, has-no-place}
use Rattle.tree.proofs.node_at.Goals as goal
use Rattle.tree.proofs.node_at.Goals.{else-left-via-then-left+else-right, else-left-via-else-left}

pub returns-then-q-nodes : goal.returns-then-q-nodes
unfolding node_at
returns-then-q-nodes c = simp (has-no-place _ _ c.if-q-nodes.true)

pub returns-then-right : goal.returns-then-right
unfolding node_at
returns-then-right c = simp (has-place _ _ c.if-q-nodes.false, eq-eqb _ _ c.if-left.true, eq-eqb _ _ c.if-right.true)

pub returns-else-left : goal.returns-else-left
unfolding node_at
returns-else-left c =
    let p = has-place _ _ c.if-q-nodes.false in
    elim c.else-left.branch [
      | else-left-via-then-left+else-right w ↦ simp (p, ne_eqb _ _ w.if-right.false, and-false)
      | else-left-via-else-left w ↦ simp (p, ne_eqb _ _ w.if-left.false)
    ]
