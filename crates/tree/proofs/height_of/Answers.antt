-- Below the one bit of a span stand as many zeros as its height.
use Rattle.std.proofs.Common.{◌∙◌, arith}
use Rattle.tree.proofs.Root.{span-zeros}
use Rattle.tree.proofs.height_of.Goals as goal

pub returns : goal.returns
returns c = λ h e. c.from.ensures ∙ rw e (span-zeros 64 h (omega (arith, e)))
