use Rattle.descent.proofs.Levels.{level-leaf}
use Rattle.descent.proofs.Level.of_leaf.Goals as goal

pub invariant_of-result : goal.invariant_of-result
invariant_of-result c = record { carries = rw c.halvings-halved.ensures.0 (level-leaf c.args.page c.requires) }
