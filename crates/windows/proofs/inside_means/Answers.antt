-- The theorem is `inside-means`.
use Rattle.windows.proofs.Used.{inside-means}
use Rattle.windows.proofs.inside_means.Goals as goal

pub returns : goal.returns
returns c = inside-means
