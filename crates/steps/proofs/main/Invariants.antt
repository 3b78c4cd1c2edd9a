-- What is to be taken stands in the block. Assumes nothing.
use Rattle.std.proofs.Common.{length}
use Rattle.steps.specs.Inputs.{within}
use Rattle.steps.proofs.main.Given as goal

abbrev pub invariant-loop-turn : goal.invariant-loop-turn
invariant-loop-turn l = within l.place.unread (length l.block)
