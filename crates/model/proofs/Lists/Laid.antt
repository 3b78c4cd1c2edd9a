-- Lists by a rule of the index, cells laid out one element after another, and pairs as a list of numbers.
-- Assumes nothing.
use mathlib.Core.List.{List, [], ◌∷◌}
use Prim.Native.Nat.{ℕ, zero, suc, ◌-◌}
use lib.Dec.{ltb}
use Rattle.tree.specs.NodeArea.{all_ones}
use Rattle.model.specs.OnModel.{either}

-- g 0, g 1 .. g (n - 1).
unfoldable pub tab : {A : Type 0} → ℕ → (ℕ → A) → List A
tab zero g = []
tab (suc n) g = g 0 ∷ tab n (λ (i : ℕ). g (suc i))

-- The numbers 1 .. n.
abbrev pub one_to : ℕ → List ℕ
one_to n = tab n (λ (i : ℕ). suc i)

-- The cell at q of cells laid out one element after another, each element with so many; d past the last.
unfoldable pub cell_in : {A B : Type 0} → (A → ℕ) → (A → ℕ → B) → B → List A → ℕ → B
cell_in size get d [] q = d
cell_in size get d (x ∷ xs) q = either (ltb q (size x)) (get x q) (cell_in size get d xs (q - size x))

-- The two numbers of a node place; both all ones where no node is stored.
abbrev pub Pair : Type 0
Pair = ℕ × ℕ

abbrev pub ones_pair : Pair
ones_pair = (all_ones, all_ones)

unfoldable pub flat : List Pair → List ℕ
flat [] = []
flat (x ∷ xs) = x.0 ∷ x.1 ∷ flat xs
