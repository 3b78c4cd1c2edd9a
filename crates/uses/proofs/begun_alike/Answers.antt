-- `uses::begun_alike` meets its contract: the corollary is `begun-alike`. Assumes nothing.
use Rattle.uses.proofs.Isolated.{begun-alike}
use Rattle.uses.proofs.begun_alike.Goals as goal

pub returns : goal.returns
returns c = begun-alike
