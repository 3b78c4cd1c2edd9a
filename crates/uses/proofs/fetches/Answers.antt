-- `uses::fetches` meets its contract: the corollary is `fetches`. Assumes nothing.
use Rattle.uses.proofs.Uses.{fetches}
use Rattle.uses.proofs.fetches.Goals as goal

pub returns : goal.returns
returns c = fetches
