-- `demands::promised` meets its contract: the theorem is `demanded`. Assumes nothing.
use Rattle.demands.proofs.Demanded.{demanded}
use Rattle.demands.proofs.promised.Goals as goal

pub returns : goal.returns
returns c = demanded
