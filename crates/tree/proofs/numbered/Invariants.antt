-- The search has come to the node of this span at a. The measure is the span.
use Rattle.tree.specs.Contract.{height_in}
use Rattle.tree.proofs.Numbering.{Numbering}
use Rattle.tree.proofs.numbered.Given as goal

abbrev pub invariant-loop-span : goal.invariant-loop-span
invariant-loop-span l = Numbering (height_in l.fn.root.span) l.i l.a l.span l.k

abbrev pub decreases-loop-span : goal.decreases-loop-span
decreases-loop-span l = l.span
