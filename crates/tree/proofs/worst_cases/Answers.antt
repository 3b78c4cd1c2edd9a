-- The theorem is `worst-cases`.
use Rattle.tree.proofs.Costliest.{worst-cases}
use Rattle.tree.proofs.worst_cases.Goals as goal

pub returns : goal.returns
returns c = worst-cases
