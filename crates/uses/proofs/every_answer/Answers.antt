-- `uses::every_answer` meets its contract: the corollary is `every-answer`. Assumes nothing.
use Rattle.uses.proofs.Laws.{every-answer}
use Rattle.uses.proofs.every_answer.Goals as goal

pub returns : goal.returns
returns c = every-answer
