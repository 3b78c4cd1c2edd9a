-- Blast windows, by computation on the model: PUBLISH at the edges of a window in the week and of one over its end, a due version held and then published, lists that
-- are refused, the empty list, the minute's row, and a window behind one with equal ends.
use Rattle.std.specs.Prelude.{◌≡◌, refl, [], ◌∷◌}
use Rattle.model.specs.Calls.{waiting, held, says}
use Rattle.model.specs.Model.{no_model, with_site_windows}
use Rattle.model.specs.OnModel.{on_model}
use Rattle.model.specs.Run.{outcomes}
use Rattle.model.specs.Due.{publishes}
use Rattle.model.specs.Example.{computes, limits}
use Rattle.model.specs.Windows.{edges, given_edges, due, given_due, lists, given_lists, minutes, given_minutes}

pub at-edges : outcomes (on_model limits) no_model edges ≡ given_edges
unfolding computes limits edges given_edges
at-edges = refl

pub held-then-published : outcomes (on_model limits) no_model due ≡ given_due
unfolding computes limits due given_due
held-then-published = refl

pub replaced-whole : outcomes (on_model limits) no_model lists ≡ given_lists
unfolding computes limits lists given_lists
replaced-whole = refl

pub minute-row : outcomes (on_model limits) no_model minutes ≡ given_minutes
unfolding computes limits minutes given_minutes
minute-row = refl

-- Some window of the list holds the minute, whatever stands before it: also behind one with equal ends, which no text has and in which no minute is.
pub some-window :
    outcomes
    (on_model limits)
    (with_site_windows no_model (record { from = 7; to = 7 } ∷ record { from = 600; to = 660 } ∷ []))
    (publishes 0 (7 ∷ 599 ∷ 600 ∷ 659 ∷ 660 ∷ []))
    ≡ (says waiting ∷ says waiting ∷ says held ∷ says held ∷ says waiting ∷ [])
unfolding computes limits
some-window = refl
