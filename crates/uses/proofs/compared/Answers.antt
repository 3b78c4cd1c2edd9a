-- `uses::compared` meets its contract: the corollary is `compared`. Assumes nothing.
use Rattle.uses.proofs.Uses.{compared}
use Rattle.uses.proofs.compared.Goals as goal

pub returns : goal.returns
returns c = compared
