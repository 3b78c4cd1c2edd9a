-- `isolation::isolated` meets its contract: the theorem is `isolated`. Assumes nothing.
use Rattle.isolation.proofs.Isolation.{isolated}
use Rattle.isolation.proofs.isolated.Goals as goal

pub returns : goal.returns
returns c = isolated
