-- PUBLISH repeated, and the version that it comes to.
use Rattle.std.specs.Prelude.{◌≡◌, false, List, map, ℕ, zero, suc, ◌≤◌, ◌<◌, length, get_or}
use Rattle.windows.specs.declared.Window.{Window}
use Rattle.windows.specs.Windows.{inside_some}
use Rattle.model.specs.Calls.{Call, on, PUBLISH}
use Rattle.model.specs.History.{History, complete}
use Rattle.model.specs.OnModel.{either}

-- PUBLISH of line l at these minutes, one after the other.
abbrev pub publishes : ℕ → List ℕ → List Call
publishes l minutes = map (λ minute. on l (PUBLISH minute)) minutes

-- An accepted minute, outside these windows; and every one of a list.
pub record Open (ws : List Window) (minute : ℕ) : Type 0 where
  pub accepted : minute ≤ 10079
  pub outside : inside_some ws minute ≡ false

abbrev pub AllOpen : List Window → List ℕ → Type 0
AllOpen ws minutes = (i : ℕ) → i < length minutes → Open ws (get_or minutes i 0)

-- The last of the versions from k + 1 on, so many of them, before the first that is not complete.
unfoldable pub complete_up_to : History → ℕ → ℕ → ℕ
complete_up_to h zero k = k
complete_up_to h (suc n) k = either (complete h (suc k)) (complete_up_to h n (suc k)) k

-- The last version before the first incomplete one, or the last assigned.
abbrev pub last_due : History → ℕ
last_due h = complete_up_to h (length h.versions) 0
