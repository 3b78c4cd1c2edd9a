use Rattle.spans.proofs.Smallest.{smallest-power}
use Rattle.spans.proofs.smallest_powers.Goals as goal

pub returns : goal.returns
returns c = smallest-power
