-- Elements counted from 1, as a list is made longer, or one element changed.
-- Assumes nothing.
use mathlib.Core.Path.{◌≡◌, refl, ap, ap₂}
use mathlib.Core.Logic.{◌≢◌}
use mathlib.Core.List.{List, [], ◌∷◌, ◌++◌, map}
use Prim.Native.Nat.{ℕ, zero, suc, pred, ◌≤◌, ◌<◌}
use native.Mathlib.Omega.{arith}
use lib.Seq.{get_or-append_seam, get_or-set_same, get_or-set_other, get_or-take}
use lib.ListN.{length, get_or, set, take, length-append, get_or-append}
use Rattle.tree.specs.Tree.{nth}

pub length-snoc : {A : Type 0} (l : List A) (x : A) → length (l ++ x ∷ []) ≡ suc (length l)
length-snoc l x = omega (arith, length-append l (x ∷ []))

pub map_snoc : {A B : Type 0} (g : A → B) (l : List A) (x : A) → map g (l ++ x ∷ []) ≡ map g l ++ g x ∷ []
map_snoc g [] x = refl
map_snoc g (y ∷ l) x = ap (λ z. g y ∷ z) (map_snoc g l x)

pub map_at : {A B : Type 0} (g : A → B) (l : List A) (i : ℕ) (d : B) (c : A) → i < length l → get_or (map g l) i d ≡ g (get_or l i c)
map_at g [] i d c h = absurd (omega arith)
map_at g (x ∷ l) zero d c h = refl
map_at g (x ∷ l) (suc i) d c h = map_at g l i d c (omega arith)

module _ {A : Type 0} (d : A) where
  pub nth-append : (xs ys : List A) (i : ℕ) → i ≤ length xs → nth d (xs ++ ys) i ≡ nth d xs i
  nth-append xs ys zero h = refl
  nth-append xs ys (suc i) h = get_or-append xs ys d i (omega arith)

  pub nth-new : (xs : List A) (x : A) → nth d (xs ++ x ∷ []) (suc (length xs)) ≡ x
  nth-new xs x = get_or-append_seam xs x [] d

  pub nth_past : (xs : List A) (i : ℕ) → length xs < i → nth d xs i ≡ d
  nth_past xs zero h = refl
  nth_past [] (suc i) h = refl
  nth_past (x ∷ xs) (suc zero) h = absurd (omega arith)
  nth_past (x ∷ xs) (suc (suc i)) h = nth_past xs (suc i) (omega arith)

  pub nth-map : {B : Type 0} (g : A → B) (e : B) (xs : List A) (i : ℕ) → 0 < i → i ≤ length xs → nth e (map g xs) i ≡ g (nth d xs i)
  nth-map g e xs zero o h = absurd (omega arith)
  nth-map g e xs (suc i) o h = map_at g xs i e d (omega arith)

  module _ (xs : List A) (t : ℕ) (x : A) (o : 0 < t) where
    pub nth-set-same : t ≤ length xs → nth d (set xs (pred t) x) t ≡ x
    nth-set-same h = go t o h
      where
        go : (t : ℕ) → 0 < t → t ≤ length xs → nth d (set xs (pred t) x) t ≡ x
        go zero o h = absurd (omega arith)
        go (suc t) o h = get_or-set_same xs t x d (omega arith)

    pub nth-set-other : (u : ℕ) → u ≢ t → nth d (set xs (pred t) x) u ≡ nth d xs u
    nth-set-other zero n = refl
    nth-set-other (suc u) n = get_or-set_other xs (pred t) u x d (λ e. n (omega arith))

    -- What a change leaves of the element, it leaves of every element.
    pub nth-set-field : {B : Type 0} (g : A → B) (u : ℕ) → g x ≡ g (nth d xs t) → g (nth d (set xs (pred t) x) u) ≡ g (nth d xs u)
    nth-set-field g zero e = refl
    nth-set-field g (suc u) e = go xs t u o e
      where
        go : (xs : List A) (t u : ℕ) → 0 < t → g x ≡ g (nth d xs t) → g (get_or (set xs (pred t) x) u d) ≡ g (get_or xs u d)
        go xs zero u o e = absurd (omega arith)
        go [] (suc t) u o e = refl
        go (y ∷ xs) (suc zero) zero o e = e
        go (y ∷ xs) (suc zero) (suc u) o e = refl
        go (y ∷ xs) (suc (suc t)) zero o e = refl
        go (y ∷ xs) (suc (suc t)) (suc u) o e = go xs (suc t) u (omega arith) e

  -- The first elements of a list are its own.
  pub nth-take : (n : ℕ) (xs : List A) (i : ℕ) → i ≤ n → nth d (take n xs) i ≡ nth d xs i
  nth-take n xs zero h = refl
  nth-take n xs (suc i) h = get_or-take n xs i d h

-- The image of a list by two rules that agree on its elements.
pub map_same : {A B : Type 0} (g h : A → B) (d : A) (xs : List A) → ((i : ℕ) → i < length xs → g (get_or xs i d) ≡ h (get_or xs i d)) → map g xs ≡ map h xs
map_same g h d [] e = refl
map_same {B = B} g h d (x ∷ xs) e =
    ap₂ (λ (y : B) (l : List B). y ∷ l) (e 0 (omega arith)) (map_same g h d xs (λ i l. e (suc i) (omega arith)))

pub map-take : {A B : Type 0} (g : A → B) (n : ℕ) (xs : List A) → map g (take n xs) ≡ take n (map g xs)
map-take g zero xs = refl
map-take g (suc n) [] = refl
map-take {B = B} g (suc n) (x ∷ xs) = ap (λ (l : List B). g x ∷ l) (map-take g n xs)
