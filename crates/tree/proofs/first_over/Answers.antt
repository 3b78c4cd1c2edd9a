-- No bit is shifted out to the left.
use Rattle.std.proofs.Common.{mod-eq_of_lt, arith}
use Rattle.tree.specs.Place.{first}
use Rattle.tree.proofs.First.{first-le}
use Rattle.tree.proofs.first_over.Goals as goal

pub returns : goal.returns
unfolding first
returns c = mod-eq_of_lt (omega (arith, first-le c.args.p.0 c.args.height))
