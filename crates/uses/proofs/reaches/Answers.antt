-- `uses::reaches` meets its contract: the corollary is `reaches`. Assumes nothing.
use Rattle.uses.proofs.Uses.{reaches}
use Rattle.uses.proofs.reaches.Goals as goal

pub returns : goal.returns
returns c = reaches
