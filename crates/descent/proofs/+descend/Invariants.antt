-- The span halves at each call.
use Rattle.descent.proofs.+descend.Given as goal

abbrev pub decreases-descend : goal.decreases-descend
decreases-descend l = l.at.now.span
