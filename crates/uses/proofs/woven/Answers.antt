-- `uses::woven` meets its contract: the corollary is `woven`. Assumes nothing.
use Rattle.uses.proofs.Isolated.{woven}
use Rattle.uses.proofs.woven.Goals as goal

pub returns : goal.returns
returns c = woven
