-- Lists: the images of two lists, element by element, and elements counted from 1, also where there are none.
-- Assumes nothing.
use mathlib.Core.Path.{◌≡◌, refl, sym, ap, ap₂, ◌∙◌}
use mathlib.Core.Logic.{inl, inr, ◌≢◌}
use mathlib.Core.Bool.{Bool, true, false, ◌||◌, false≢true}
use mathlib.Core.List.{List, [], ◌∷◌, ◌++◌, map}
use Prim.Native.Nat.{ℕ, zero, suc, ◌≤◌, ◌<◌}
use native.Mathlib.Decide.{ℕ_discrete}
use native.Mathlib.Omega.{arith}
use borrow.Author.Tests.{eqb-false}
use lib.Dec.{eqb}
use lib.ListN.{length}
use Rattle.tree.specs.Tree.{nth}
use Rattle.tree.proofs.Meets.{lt-or-le}
use Rattle.model.proofs.Lists.Nth.{length-snoc, nth-append, nth-new, nth_past}
use Rattle.isolation.specs.Isolation.{among}

-- The images of two lists by two rules that agree on their elements.
pub map-pair : {A B C : Type 0} (g : A → C) (h : B → C) (d : A) (e : B) (xs : List A) (ys : List B) → length xs ≡ length ys
    → ((v : ℕ) → g (nth d xs v) ≡ h (nth e ys v)) → map g xs ≡ map h ys
map-pair g h d e [] [] q f = refl
map-pair g h d e [] (y ∷ ys) q f = absurd (omega arith)
map-pair g h d e (x ∷ xs) [] q f = absurd (omega arith)
map-pair {C = C} g h d e (x ∷ xs) (y ∷ ys) q f =
    ap₂ (λ (z : C) (l : List C). z ∷ l) (f 1) (map-pair g h d e xs ys (omega arith) later)
  where
    later : (v : ℕ) → g (nth d xs v) ≡ h (nth e ys v)
    later zero = f 0
    later (suc v) = f (suc (suc v))

-- One element more leaves all others.
pub nth-snoc : {A : Type 0} (d : A) (xs : List A) (x : A) (v : ℕ) → v ≢ suc (length xs) → nth d (xs ++ x ∷ []) v ≡ nth d xs v
nth-snoc d xs x v n = elim (lt-or-le (length xs) v) [
  | inl h ↦ rw (nth_past d (xs ++ x ∷ []) v (omega (arith, length-snoc xs x, n)), nth_past d xs v h)
  | inr h ↦ nth-append d xs (x ∷ []) v h
]

-- A field of the elements of two lists, one more in each.
pub nth-snocs : {A B C : Type 0} (g : A → C) (g' : B → C) (d : A) (d' : B) (xs : List A) (ys : List B) (x : A) (y : B) → length xs ≡ length ys → g x ≡ g' y
    → ((v : ℕ) → g (nth d xs v) ≡ g' (nth d' ys v)) → (v : ℕ) → g (nth d (xs ++ x ∷ []) v) ≡ g' (nth d' (ys ++ y ∷ []) v)
nth-snocs g g' d d' xs ys x y q new old v = elim (ℕ_discrete v (suc (length xs))) [
  | yes e ↦ ap g (rw e (nth-new d xs x)) ∙ new ∙ sym (ap g' (rw (e ∙ ap suc q) (nth-new d' ys y)))
  | no n ↦ ap g (nth-snoc d xs x v n) ∙ old v ∙ sym (ap g' (nth-snoc d' ys y v (λ e. n (e ∙ ap suc (sym q)))))
]

-- What is there is at a place of the list.
pub in-list-at : (ts : List ℕ) (k : ℕ) → 0 < nth 0 ts k → (0 < k) × (k ≤ length ts)
in-list-at ts zero o = absurd (omega arith)
in-list-at ts (suc k) o = elim (lt-or-le k (length ts)) [
  | inl h ↦ (omega arith, h)
  | inr h ↦ absurd (omega (arith, nth_past 0 ts (suc k) (omega arith)))
]

pub or_split : (a b : Bool) → a || b ≡ false → (a ≡ false) × (b ≡ false)
or_split true b e = (e, absurd (false≢true (sym e)))
or_split false b e = (refl, e)

-- What is not among these is none of them.
pub among-not : (ts : List ℕ) (t : ℕ) → 0 < t → among ts t ≡ false → (k : ℕ) → nth 0 ts k ≢ t
unfolding among
among-not ts t o e zero q = absurd (omega arith)
among-not [] t o e (suc k) q = absurd (omega arith)
among-not (x ∷ ts) t o e (suc zero) q = eqb-false x t (or_split (eqb x t) (among ts t) e).0 q
among-not (x ∷ ts) t o e (suc (suc k)) q = among-not ts t o (or_split (eqb x t) (among ts t) e).1 (suc k) q
