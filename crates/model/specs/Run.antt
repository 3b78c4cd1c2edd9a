-- Lists of calls, from any state by its step, and on the model.
use Rattle.std.specs.Prelude.{List, [], ◌∷◌}
use Rattle.model.specs.Calls.{Call, Outcome}
use Rattle.model.specs.Model.{Limits, Model, no_model}
use Rattle.model.specs.OnModel.{on_model}

-- A list of calls: the state after it, and what the calls gave back.
module _ {S : Type 0} (step : S → Call → S × Outcome) where
  unfoldable pub run : S → List Call → S
  run s [] = s
  run s (c ∷ cs) = run (step s c).0 cs

  unfoldable pub outcomes : S → List Call → List Outcome
  outcomes s [] = []
  outcomes s (c ∷ cs) = let o = step s c in o.1 ∷ outcomes o.0 cs

-- The model after a list of calls.
abbrev pub model_after : Limits → List Call → Model
model_after L cs = run (on_model L) no_model cs
