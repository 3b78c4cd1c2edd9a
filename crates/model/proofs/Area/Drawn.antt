-- The areas of a model with three lines, by computation.
-- Assumes nothing.
use mathlib.Core.Path.{◌≡◌, refl}
use mathlib.Core.List.{◌++◌}
use lib.ListN.{replicate}
use Rattle.model.specs.InTurn.{joined}
use Rattle.model.specs.Run.{run}
use Rattle.model.specs.Example.{computes, limits, page_of, calls, more}
use Rattle.model.specs.Trees.{after, nodes_after}
use Rattle.model.proofs.Lists.Laid.{tab, cell_in, flat}
use Rattle.model.proofs.Area.Image.{page_list, pages_image, nodes_image}

pub nodes-drawn : nodes_image limits after ≡ nodes_after
unfolding computes limits calls more after run nodes_image tab cell_in flat nodes_after
nodes-drawn = refl

pub pages-drawn : pages_image limits after ≡ page_of 10 ++ page_of 11 ++ page_of 21 ++ page_of 30 ++ page_of 42 ++ page_of 50 ++ replicate 32 0
unfolding computes limits calls more after run pages_image page_list tab cell_in joined
pages-drawn = refl
