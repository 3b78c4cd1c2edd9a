-- The lines of the model's example on the calls' definitions, by computation: two lines from one shared version, a line from version 0, and the sixteenth line;
-- then, on both, a line from a line, and what both lines give back of what they share.
use Rattle.std.specs.Prelude.{◌≡◌, refl, ◌++◌}
use Rattle.model.specs.Run.{outcomes}
use Rattle.model.specs.Example.{limits, calls, given, more, given_more, branches}
use Rattle.demands.specs.Computes.{computes}
use Rattle.demands.specs.Run.{on_store, formatted_state, store_after}
use Rattle.demands.specs.Lines.{areas, words, given_words, third, given_third}

pub two-lines : outcomes on_store (formatted_state limits areas) (calls ++ more) ≡ given ++ given_more
unfolding computes limits areas calls given more given_more
two-lines = refl

pub words-by-calls : outcomes on_store (store_after limits areas branches) words ≡ given_words
unfolding computes limits areas branches words given_words
words-by-calls = refl

pub third-by-calls : outcomes on_store (store_after limits areas (calls ++ more)) third ≡ given_third
unfolding computes limits areas calls more third given_third
third-by-calls = refl
