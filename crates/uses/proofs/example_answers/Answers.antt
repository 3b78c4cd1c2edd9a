-- `uses::example_answers` meets its contract: the corollary is `example-answers`. Assumes nothing.
use Rattle.uses.proofs.Uses.{example-answers}
use Rattle.uses.proofs.example_answers.Goals as goal

pub returns : goal.returns
returns c = example-answers
