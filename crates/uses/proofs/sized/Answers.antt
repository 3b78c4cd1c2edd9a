-- `uses::sized` meets its contract: the corollary is `all-sized`. Assumes nothing.
use Rattle.uses.proofs.Worst.{all-sized}
use Rattle.uses.proofs.sized.Goals as goal

pub returns : goal.returns
returns c = all-sized
