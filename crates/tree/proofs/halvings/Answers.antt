-- The one bits of a number are at most its double.
use Rattle.std.proofs.Common.{refl, arith}
use Rattle.tree.specs.Place.{halvings}
use Rattle.tree.proofs.Ones.{ones-le-twice}
use Rattle.tree.proofs.halvings.Goals as goal

pub returns : goal.returns
unfolding halvings
returns c = let e = c.from.ensures in (rw e refl, omega (arith, e, ones-le-twice c.args.x))
