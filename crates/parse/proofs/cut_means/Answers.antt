-- The theorem that `parse::cut_means` promises is `cut-means`.
use Rattle.parse.proofs.Cutting.{cut-means}
use Rattle.parse.proofs.cut_means.Goals as goal

pub returns : goal.returns
returns c = cut-means
