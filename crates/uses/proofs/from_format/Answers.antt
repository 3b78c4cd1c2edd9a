-- `uses::from_format` meets its contract: the corollary is `from-format`. Assumes nothing.
use Rattle.uses.proofs.Isolated.{from-format}
use Rattle.uses.proofs.from_format.Goals as goal

pub returns : goal.returns
returns c = from-format
