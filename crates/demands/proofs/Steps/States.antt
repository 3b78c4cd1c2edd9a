-- A store with its windows and its areas, part by part, and what a call leaves and answers.
-- Assumes nothing.
use mathlib.Core.Path.{◌≡◌}
use mathlib.Core.List.{List}
use Prim.Native.Nat.{ℕ}
use Rattle.register.specs.declared.Record.{Record}
use Rattle.windows.specs.declared.Windows.{Windows}
use Rattle.versions.specs.declared.Store.{Store}
use Rattle.versions.specs.Store.{areas_of}
use Rattle.model.specs.Calls.{Answer, Outcome, says}
use Rattle.demands.specs.Run.{State, state_with, with_windows}

abbrev pub leaves : State → Answer → State × Outcome
leaves x a = (x, says a)

abbrev pub state_of : Store → Windows → List ℕ → List ℕ → List Record → State
state_of s w pages nodes register = with_windows (state_with s (areas_of pages nodes register)) w

-- The windows stay.
pub state-same : {w : Windows} {s s' : Store} {p p' n n' : List ℕ} {r r' : List Record} → s ≡ s' → p ≡ p' → n ≡ n' → r ≡ r'
    → state_of s w p n r ≡ state_of s' w p' n' r'
state-same {w} a b c d = λ i. state_of (a i) w (b i) (c i) (d i)
