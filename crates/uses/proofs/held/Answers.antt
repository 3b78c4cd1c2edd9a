-- `uses::held` meets its contract: the corollary is `held-there`. Assumes nothing.
use Rattle.uses.proofs.Uses.{held-there}
use Rattle.uses.proofs.held.Goals as goal

pub returns : goal.returns
returns c = held-there
