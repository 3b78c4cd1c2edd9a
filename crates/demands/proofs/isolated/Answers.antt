-- `demands::isolated` meets its contract: the theorem is `isolated`. Assumes nothing.
use Rattle.demands.proofs.Demanded.{isolated}
use Rattle.demands.proofs.isolated.Goals as goal

pub returns : goal.returns
returns c = isolated
