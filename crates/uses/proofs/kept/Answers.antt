-- `uses::kept` meets its contract: the corollary is `kept`. Assumes nothing.
use Rattle.uses.proofs.Uses.{kept}
use Rattle.uses.proofs.kept.Goals as goal

pub returns : goal.returns
returns c = kept
