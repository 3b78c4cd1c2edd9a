-- A ticket's slots, filled or not.
-- Assumes nothing.
use Rattle.std.proofs.Common.{Option, None, Some}
use mathlib.Core.Path.{◌≡◌, refl}
use mathlib.Core.Bool.{true, false≢true}
use mathlib.Core.List.{List, [], ◌∷◌}
use Prim.Native.Nat.{ℕ, zero, suc, ◌<◌}
use native.Mathlib.Omega.{arith}
use lib.ListN.{length, get_or, replicate}
use Rattle.model.specs.History.{Page, all_filled}
use Rattle.model.specs.InTurn.{content}

-- The slots of a new ticket are empty.
pub none-there : (n i : ℕ) → ◌≡◌ {A = Option Page} (get_or (replicate n None) i None) None
none-there zero i = refl
none-there (suc n) zero = refl
none-there (suc n) (suc i) = none-there n i

-- A slot that holds a page is there.
pub some-lt : (l : List (Option Page)) (i : ℕ) (x : Page) → get_or l i None ≡ Some x → i < length l
some-lt [] i x e = let z : ◌≡◌ {A = ℕ} 0 1 = cc in absurd (omega arith)
some-lt (y ∷ l) zero x e = omega arith
some-lt (y ∷ l) (suc i) x e = omega (arith, some-lt l i x e)

-- A slot of a filled ticket has a page: its content.
pub filled-slot : (xs : List (Option Page)) → all_filled xs ≡ true → (i : ℕ) → i < length xs → get_or xs i None ≡ Some (content (get_or xs i None))
unfolding all_filled
filled-slot [] e i q = absurd (omega arith)
filled-slot (None ∷ xs) e i q = absurd (false≢true e)
filled-slot (Some x ∷ xs) e zero q = refl
filled-slot (Some x ∷ xs) e (suc i) q = filled-slot xs e i (omega arith)
