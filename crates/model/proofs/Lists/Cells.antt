-- Cells laid out one element after another: where an element's cells begin, which cell stands at a number, and what a change of one cell leaves.
-- Assumes nothing.
use mathlib.Core.Path.{◌≡◌, refl, sym, ap, ap₂, ◌∙◌}
use mathlib.Core.Logic.{inl, inr, ◌≢◌}
use mathlib.Core.List.{List, [], ◌∷◌, ◌++◌}
use Prim.Native.Nat.{ℕ, zero, suc, pred, ◌+◌, ◌-◌, ◌≤◌, ◌<◌}
use native.Mathlib.Nat.{zero-add, suc_inj}
use native.Mathlib.Omega.{arith}
use borrow.Author.Tests.{lt-ltb, le-ltb}
use lib.Dec.{ltb}
use lib.ListN.{length, get_or}
use Rattle.tree.proofs.Meets.{lt-or-le}
use Rattle.model.specs.OnModel.{either}
use Rattle.model.proofs.Lists.Laid.{cell_in, one_to}
use Rattle.model.proofs.Lists.Tab.{length-tab, get_or-tab, tab-more}

-- The cells of the first t elements.
unfoldable pub before : {A : Type 0} → (A → ℕ) → List A → ℕ → ℕ
before size xs zero = 0
before size [] (suc t) = 0
before size (x ∷ xs) (suc t) = size x + before size xs t

module _ {A : Type 0} (size : A → ℕ) where
  pub before_more : (xs : List A) (t : ℕ) (z : A) → t < length xs → before size xs (suc t) ≡ before size xs t + size (get_or xs t z)
  unfolding before
  before_more [] t z h = absurd (omega arith)
  before_more (x ∷ xs) zero z h = omega arith
  before_more (x ∷ xs) (suc t) z h = omega (arith, before_more xs t z (omega arith))

  -- The cells of two elements lie apart.
  pub before-lt : (xs : List A) (t u : ℕ) (z : A) → t < u → u ≤ length xs → before size xs t + size (get_or xs t z) ≤ before size xs u
  unfolding before
  before-lt [] t u z h k = absurd (omega arith)
  before-lt (x ∷ xs) t zero z h k = absurd (omega arith)
  before-lt (x ∷ xs) zero (suc u) z h k = omega arith
  before-lt (x ∷ xs) (suc t) (suc u) z h k = omega (arith, before-lt xs t u z (omega arith) (omega arith))

  pub before-le : (xs : List A) (t u : ℕ) → t ≤ u → before size xs t ≤ before size xs u
  unfolding before
  before-le xs zero u h = omega arith
  before-le xs (suc t) zero h = absurd (omega arith)
  before-le [] (suc t) (suc u) h = omega arith
  before-le (x ∷ xs) (suc t) (suc u) h = omega (arith, before-le xs t u (omega arith))

  -- Where number q lies: at cell i of element t, or past the last.
  pub data Where (xs : List A) (z : A) (q : ℕ) : Type 0 where
    inside : (t i : ℕ) → t < length xs → i < size (get_or xs t z) → q ≡ before size xs t + i → Where xs z q
    outside : before size xs (length xs) ≤ q → Where xs z q

  pub locate : (xs : List A) (z : A) (q : ℕ) → Where xs z q
  unfolding before
  locate [] z q = outside (omega arith)
  locate (x ∷ xs) z q = elim (lt-or-le q (size x)) [
    | inl h ↦ inside 0 q (omega arith) h (omega arith)
    | inr h ↦ elim (locate xs z (q - size x)) [
      | inside t i l k e ↦ inside (suc t) i (omega arith) k (omega arith)
      | outside k ↦ outside (omega arith)
    ]
  ]

pub numbered-at : (n t z : ℕ) → t < n → get_or (one_to n) t z ≡ suc t
numbered-at n t z h = get_or-tab n suc t z h

-- Two lists whose elements have as many cells begin their elements at the same numbers.
pub before_same : {A C : Type 0} (size : A → ℕ) (size' : C → ℕ) (xs : List A) (ys : List C) (z : A) (w : C) → length xs ≡ length ys
    → ((t : ℕ) → t < length xs → size (get_or xs t z) ≡ size' (get_or ys t w)) → (t : ℕ) → before size xs t ≡ before size' ys t
unfolding before
before_same size size' [] [] z w e h zero = refl
before_same size size' [] [] z w e h (suc t) = refl
before_same size size' [] (y ∷ ys) z w e h t = absurd (omega arith)
before_same size size' (x ∷ xs) [] z w e h t = absurd (omega arith)
before_same size size' (x ∷ xs) (y ∷ ys) z w e h zero = refl
before_same size size' (x ∷ xs) (y ∷ ys) z w e h (suc t) =
    ap₂ (λ a b. a + b) (h 0 (omega arith)) (before_same size size' xs ys z w (omega arith) (λ u l. h (suc u) (omega arith)) t)

module _ {A B : Type 0} (size : A → ℕ) (get : A → ℕ → B) (d : B) where
  pub cell_at : (xs : List A) (t i : ℕ) (z : A) → t < length xs → i < size (get_or xs t z) → cell_in size get d xs (before size xs t + i) ≡ get (get_or xs t z) i
  unfolding cell_in before
  cell_at [] t i z h k = absurd (omega arith)
  cell_at (x ∷ xs) zero i z h k = rw (zero-add i, lt-ltb i (size x) k)
  cell_at (x ∷ xs) (suc t) i z h k =
      let e : size x + before size xs t + i - size x ≡ before size xs t + i = omega arith in
      rw (le-ltb (size x + before size xs t + i) (size x) (omega arith), e) (cell_at xs t i z (omega arith) k)

  pub cell-past : (xs : List A) (q : ℕ) → before size xs (length xs) ≤ q → cell_in size get d xs q ≡ d
  unfolding cell_in before
  cell-past [] q h = refl
  cell-past (x ∷ xs) q h = rw (le-ltb q (size x) (omega arith)) (cell-past xs (q - size x) (omega arith))

  -- An element more whose cells are all d changes no cell.
  pub cell-append : (xs : List A) (x : A) → ((i : ℕ) → i < size x → get x i ≡ d) → (q : ℕ) → cell_in size get d (xs ++ x ∷ []) q ≡ cell_in size get d xs q
  unfolding cell_in
  cell-append [] x h q = elim (lt-or-le q (size x)) [ inl l ↦ rw (lt-ltb q (size x) l) (h q l) | inr l ↦ rw (le-ltb q (size x) l) ]
  cell-append (y ∷ xs) x h q = ap (either (ltb q (size y)) (get y q)) (cell-append xs x h (q - size y))

-- Two layouts whose elements have as many cells agree wherever their cells do, but at one number, where one cell may differ.
module _ {A C B : Type 0} (size : A → ℕ) (get : A → ℕ → B) (size' : C → ℕ) (get' : C → ℕ → B) (d : B) (xs : List A) (ys : List C) (z : A) (w : C)
    (long : length xs ≡ length ys) (sizes : (t : ℕ) → t < length xs → size (get_or xs t z) ≡ size' (get_or ys t w)) where
  pub cell-but : (u j : ℕ) → ((t i : ℕ) → t < length xs → i < size (get_or xs t z) → (t ≡ u → i ≡ j → ⊥) → get (get_or xs t z) i ≡ get' (get_or ys t w) i)
      → (q : ℕ) → q ≢ before size xs u + j → cell_in size get d xs q ≡ cell_in size' get' d ys q
  cell-but u j h q n = elim (locate size xs z q) [
    | inside t i l k e ↦
        let s = sizes t l in
        let b = before_same size size' xs ys z w long sizes t in
        rw e (cell_at size get d xs t i z l k ∙ h t i l k (λ p r. n (rw (← p, ← r) e)) ∙ sym (rw b (cell_at size' get' d ys t i w (omega arith) (omega arith))))
    | outside k ↦
        cell-past size get d xs q k ∙ sym (cell-past size' get' d ys q (rw (← long, ← before_same size size' xs ys z w long sizes (length xs)) k))
  ]

-- ---- the elements 1 .. n, as the versions are

module _ {B : Type 0} (size : ℕ → ℕ) (get : ℕ → ℕ → B) (d : B) (n : ℕ) where
  pub numbered-cell : (v i : ℕ) → 0 < v → v ≤ n → i < size v → cell_in size get d (one_to n) (before size (one_to n) (pred v) + i) ≡ get v i
  numbered-cell zero i o h k = absurd (omega arith)
  numbered-cell (suc v) i o h k =
      let e = numbered-at n v 0 h in
      cell_at size get d (one_to n) v i 0 (rw length-tab h) (rw e k) ∙ rw e

  -- One number more, whose cells are all d.
  pub numbered_more : ((i : ℕ) → i < size (suc n) → get (suc n) i ≡ d) → (q : ℕ) → cell_in size get d (one_to (suc n)) q ≡ cell_in size get d (one_to n) q
  numbered_more h q = rw (tab-more n suc) (cell-append size get d (one_to n) (suc n) h q)

-- Two rules that agree: but at one cell, and everywhere.
module _ {B : Type 0} (size : ℕ → ℕ) (get : ℕ → ℕ → B) (size' : ℕ → ℕ) (get' : ℕ → ℕ → B) (d : B) (n : ℕ)
    (sizes : (v : ℕ) → 0 < v → v ≤ n → size v ≡ size' v) where
  sizes-at : (t : ℕ) → t < length (one_to n) → size (get_or (one_to n) t 0) ≡ size' (get_or (one_to n) t 0)
  sizes-at t l =
      let l' : t < n = rw length-tab at l in
      rw (numbered-at n t 0 l') (sizes (suc t) (omega arith) l')

  pub numbered-before : (t : ℕ) → before size (one_to n) t ≡ before size' (one_to n) t
  numbered-before t = before_same size size' (one_to n) (one_to n) 0 0 refl sizes-at t

  pub numbered-changed : (v i : ℕ) → 0 < v → v ≤ n → i < size v → cell_in size' get' d (one_to n) (before size (one_to n) (pred v) + i) ≡ get' v i
  numbered-changed v i o h k =
      let e = sizes v o h in
      rw (numbered-before (pred v)) (numbered-cell size' get' d n v i o h (omega arith))

  pub numbered-but : (v i : ℕ) → 0 < v → ((w j : ℕ) → 0 < w → w ≤ n → j < size w → (w ≡ v → j ≡ i → ⊥) → get w j ≡ get' w j)
      → (q : ℕ) → q ≢ before size (one_to n) (pred v) + i → cell_in size get d (one_to n) q ≡ cell_in size' get' d (one_to n) q
  numbered-but zero i o h q k = absurd (omega arith)
  numbered-but (suc v) i o h q k = cell-but size get size' get' d (one_to n) (one_to n) 0 0 refl sizes-at v i gets q k
    where
      gets : (t j : ℕ) → t < length (one_to n) → j < size (get_or (one_to n) t 0) → (t ≡ v → j ≡ i → ⊥) → get (get_or (one_to n) t 0) j ≡ get' (get_or (one_to n) t 0) j
      gets t j l m r =
          let l' : t < n = rw length-tab at l in
          let e = numbered-at n t 0 l' in
          rw e (h (suc t) j (omega arith) l' (rw e at m) (λ z. r (suc_inj z)))

  pub numbered-same : ((v i : ℕ) → 0 < v → v ≤ n → i < size v → get v i ≡ get' v i) → (q : ℕ) → cell_in size get d (one_to n) q ≡ cell_in size' get' d (one_to n) q
  numbered-same h q = numbered-but 1 (suc q) (omega arith) (λ v i o l k r. h v i o l k) q (λ e. omega arith)
