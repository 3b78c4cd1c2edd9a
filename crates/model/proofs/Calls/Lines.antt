-- The lines as one is changed, and as one is added.
-- Assumes nothing.
use mathlib.Core.Path.{◌≡◌}
use mathlib.Core.Logic.{◌≢◌}
use mathlib.Core.List.{List, [], ◌∷◌, ◌++◌}
use Prim.Native.Nat.{ℕ, ◌<◌}
use native.Mathlib.Decide.{ℕ_discrete}
use lib.ListN.{length, get_or, set, get_or-append}
use lib.Seq.{get_or-set_same, get_or-set_other, get_or-append_seam}
use Rattle.model.specs.Model.{Line, no_line}
use Rattle.model.proofs.Calls.Grows.{LineGrown, line-unmoved}

module _ (xs : List Line) (l : ℕ) (y : Line) (there : l < length xs) where
  pub line-this : get_or (set xs l y) l no_line ≡ y
  line-this = get_or-set_same xs l y no_line there

  pub line_other : (k : ℕ) → k ≢ l → get_or (set xs l y) k no_line ≡ get_or xs k no_line
  line_other k n = get_or-set_other xs l k y no_line n

  -- Every line grows where the one changed does.
  pub line_set : LineGrown (get_or xs l no_line) y → (k : ℕ) → LineGrown (get_or xs k no_line) (get_or (set xs l y) k no_line)
  line_set g k = elim (ℕ_discrete k l) [
    | yes e ↦ rw (e, line-this) g
    | no n ↦ line-unmoved (get_or xs k no_line) (get_or (set xs l y) k no_line) (line_other k n)
  ]

module _ (xs : List Line) (y : Line) where
  pub line-old : (k : ℕ) → k < length xs → get_or (xs ++ y ∷ []) k no_line ≡ get_or xs k no_line
  line-old k h = get_or-append xs (y ∷ []) no_line k h

  pub line-new : get_or (xs ++ y ∷ []) (length xs) no_line ≡ y
  line-new = get_or-append_seam xs y [] no_line
