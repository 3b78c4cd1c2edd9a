-- `uses::begins` meets its contract: the corollary is `begins`. Assumes nothing.
use Rattle.uses.proofs.Uses.{begins}
use Rattle.uses.proofs.begins.Goals as goal

pub returns : goal.returns
returns c = begins
