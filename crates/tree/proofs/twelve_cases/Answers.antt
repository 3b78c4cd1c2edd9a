-- The theorem is `twelve-cases`.
use Rattle.tree.specs.Cases.{twelve-cases}
use Rattle.tree.proofs.twelve_cases.Goals as goal

pub returns : goal.returns
returns c = twelve-cases
