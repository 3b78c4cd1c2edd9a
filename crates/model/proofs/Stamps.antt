-- Slip 4's stamps, by computation on the model: a page sent again unchanged, changed and changed back, changed in its last byte; a page past the end of the version
-- before; updates of two pages of which one is unchanged; and a page that two lines share.
use Rattle.std.specs.Prelude.{◌≡◌, refl}
use Rattle.model.specs.Model.{no_model}
use Rattle.model.specs.OnModel.{on_model}
use Rattle.model.specs.Run.{outcomes}
use Rattle.model.specs.Example.{computes, limits}
use Rattle.model.specs.Stamps.{again, given_again, pairs, given_pairs, apart, given_apart}

pub sent-again : outcomes (on_model limits) no_model again ≡ given_again
unfolding computes limits again given_again
sent-again = refl

pub of-two-pages : outcomes (on_model limits) no_model pairs ≡ given_pairs
unfolding computes limits pairs given_pairs
of-two-pages = refl

pub on-two-lines : outcomes (on_model limits) no_model apart ≡ given_apart
unfolding computes limits apart given_apart
on-two-lines = refl
