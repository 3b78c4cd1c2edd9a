-- `uses::unreached` meets its contract: the corollary is `unreached`. Assumes nothing.
use Rattle.uses.proofs.Isolated.{unreached}
use Rattle.uses.proofs.unreached.Goals as goal

pub returns : goal.returns
returns c = unreached
