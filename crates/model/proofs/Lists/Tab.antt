-- Lists by a rule of the index: their lengths, elements, changes and parts.
-- Assumes nothing.
use mathlib.Core.Path.{◌≡◌, refl, ap, ap₂}
use mathlib.Core.Logic.{◌≢◌}
use mathlib.Core.List.{List, [], ◌∷◌, ◌++◌, map}
use Prim.Native.Nat.{ℕ, zero, suc, ◌≤◌, ◌<◌}
use native.Mathlib.Nat.{suc_inj}
use native.Mathlib.Omega.{arith}
use lib.ListN.{length, get_or, set, take, replicate}
use Rattle.model.proofs.Lists.Laid.{tab}

module _ {A : Type 0} where
  pub length-tab : (n : ℕ) (g : ℕ → A) → length (tab n g) ≡ n
  unfolding tab
  length-tab zero g = refl
  length-tab (suc n) g = ap suc (length-tab n (λ i. g (suc i)))

  pub get_or-tab : (n : ℕ) (g : ℕ → A) (i : ℕ) (d : A) → i < n → get_or (tab n g) i d ≡ g i
  unfolding tab
  get_or-tab zero g i d h = absurd (omega arith)
  get_or-tab (suc n) g zero d h = refl
  get_or-tab (suc n) g (suc i) d h = get_or-tab n (λ j. g (suc j)) i d (omega arith)

  pub tab-same : (n : ℕ) (g h : ℕ → A) → ((i : ℕ) → i < n → g i ≡ h i) → tab n g ≡ tab n h
  unfolding tab
  tab-same zero g h e = refl
  tab-same (suc n) g h e =
      ap₂ (λ (x : A) (l : List A). x ∷ l) (e 0 (omega arith)) (tab-same n (λ i. g (suc i)) (λ i. h (suc i)) (λ i l. e (suc i) (omega arith)))

  pub tab-set : (n : ℕ) (g h : ℕ → A) (i : ℕ) (x : A) → i < n → ((j : ℕ) → j < n → j ≢ i → g j ≡ h j) → h i ≡ x → set (tab n g) i x ≡ tab n h
  unfolding tab
  tab-set zero g h i x l e p = absurd (omega arith)
  tab-set (suc n) g h zero x l e p =
      rw (← p) (ap (λ (l : List A). h 0 ∷ l) (tab-same n (λ i. g (suc i)) (λ i. h (suc i)) (λ j m. e (suc j) (omega arith) (λ z. omega arith))))
  tab-set (suc n) g h (suc i) x l e p =
      ap₂ (λ (y : A) (l : List A). y ∷ l) (e 0 (omega arith) (λ z. omega arith))
      (tab-set n (λ j. g (suc j)) (λ j. h (suc j)) i x (omega arith) (λ j m k. e (suc j) (omega arith) (λ z. k (suc_inj z))) p)

  pub take-tab : (k n : ℕ) (g : ℕ → A) → k ≤ n → take k (tab n g) ≡ tab k g
  unfolding tab
  take-tab zero n g h = refl
  take-tab (suc k) zero g h = absurd (omega arith)
  take-tab (suc k) (suc n) g h = ap (λ (l : List A). g 0 ∷ l) (take-tab k n (λ i. g (suc i)) (omega arith))

  pub replicate-tab : (n : ℕ) (x : A) → replicate n x ≡ tab n (λ i. x)
  unfolding tab
  replicate-tab zero x = refl
  replicate-tab (suc n) x = ap (λ (l : List A). x ∷ l) (replicate-tab n x)

  -- One element more, at the end.
  pub tab-more : (n : ℕ) (g : ℕ → A) → tab (suc n) g ≡ tab n g ++ g n ∷ []
  unfolding tab
  tab-more zero g = refl
  tab-more (suc n) g = ap (λ (l : List A). g 0 ∷ l) (tab-more n (λ i. g (suc i)))

  -- A list is the one by its own elements.
  pub tab-list : (xs : List A) (d : A) → tab (length xs) (λ i. get_or xs i d) ≡ xs
  unfolding tab
  tab-list [] d = refl
  tab-list (x ∷ xs) d = ap (λ (l : List A). x ∷ l) (tab-list xs d)

pub map-tab : {A B : Type 0} (f : A → B) (n : ℕ) (g : ℕ → A) → map f (tab n g) ≡ tab n (λ i. f (g i))
unfolding tab
map-tab f zero g = refl
map-tab {B = B} f (suc n) g = ap (λ (l : List B). f (g 0) ∷ l) (map-tab f n (λ i. g (suc i)))
