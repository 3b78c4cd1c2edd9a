-- Document 01's example input as a list of calls, all on line 0: its answers, by computation, on the model and on the calls' definitions.
use Rattle.std.specs.Prelude.{◌≡◌, refl}
use Rattle.model.specs.Run.{outcomes}
use Rattle.demands.specs.Computes.{computes}
use Rattle.demands.specs.Run.{on_store, formatted_state}
use Rattle.demands.specs.Example.{limits, areas, calls, given}

pub by-calls : outcomes on_store (formatted_state limits areas) calls ≡ given
unfolding computes limits areas calls given
by-calls = refl
