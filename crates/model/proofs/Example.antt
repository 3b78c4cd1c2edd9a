-- Two lines from one shared version, a line from version 0, and the sixteenth line, by computation on the model.
use Rattle.std.specs.Prelude.{◌≡◌, refl, ◌++◌}
use Rattle.model.specs.Model.{no_model}
use Rattle.model.specs.OnModel.{on_model}
use Rattle.model.specs.Run.{outcomes}
use Rattle.model.specs.Example.{computes, limits, calls, given, more, given_more, branches, given_branches}

pub two-lines : outcomes (on_model limits) no_model calls ≡ given
unfolding computes limits calls given
two-lines = refl

pub reading : outcomes (on_model limits) no_model (calls ++ more) ≡ given ++ given_more
unfolding computes limits calls given more given_more
reading = refl

pub sixteen : outcomes (on_model limits) no_model branches ≡ given_branches
unfolding computes limits branches given_branches
sixteen = refl
