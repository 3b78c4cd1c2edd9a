-- The table's rows in two matched states: their refusals are one, or one of the two is excused; and what a call then gives back.
-- Assumes nothing.
use mathlib.Core.Path.{◌≡◌, refl, sym, subst, ◌∙◌}
use mathlib.Core.Logic.{inl, inr}
use mathlib.Core.Bool.{Bool, true, false, cond}
use mathlib.Core.List.{List}
use Prim.Native.Nat.{ℕ, zero, suc, ◌<◌}
use native.Mathlib.Omega.{arith}
use Rattle.model.specs.Calls.{Answer, refused, says, answers}
use Rattle.model.specs.Model.{Model}
use Rattle.model.specs.OnModel.{Stepped}
use Rattle.isolation.specs.Isolation.{listed, Match, Excused, by_list, SameAnswer, word, Compare}

pub data IsRefusal : Answer → Type 0 where
  refusal : {r : ℕ} → IsRefusal (refused r)

-- No refusal, or a listed one.
pub data Fine (r : ℕ) : Type 0 where
  no-refusal : r ≡ 0 → Fine r
  in_list : 0 < r → listed r ≡ true → Fine r

pub fine-row : (b : Bool) (q : ℕ) {r : ℕ} → listed (suc q) ≡ true → Fine r → Fine (cond b (suc q) r)
fine-row true q e d = in_list (omega arith) e
fine-row false q e d = d

module _ (l l' : ℕ) (m m' : Model) where
  refusal-left : {t t' : ℕ} {a : Answer} {r : ℕ} → SameAnswer l l' m m' t t' a (refused r) → IsRefusal a
  refusal-left (word f) = refusal

  refusal-right : {t t' : ℕ} {a : Answer} {r : ℕ} → SameAnswer l l' m m' t t' (refused r) a → IsRefusal a
  refusal-right (word f) = refusal

  -- Two refusals are one, or one of the two is excused.
  pub data Alike (t t' r r' : ℕ) : Type 0 where
    alike : r ≡ r' → Alike t t' r r'
    mine : 0 < r → Excused l m t (refused r) → Alike t t' r r'
    yours : 0 < r' → Excused l' m' t' (refused r') → Alike t t' r r'

  pub alike-row : {t t' : ℕ} (b : Bool) (q : ℕ) {r r' : ℕ} → Alike t t' r r' → Alike t t' (cond b q r) (cond b q r')
  alike-row true q d = alike refl
  alike-row false q d = d

  -- Rows that may come out otherwise, since their refusals are listed.
  pub alike-fine : {t t' r r' : ℕ} → Fine r → Fine r' → Alike t t' r r'
  alike-fine (no-refusal e) (no-refusal e') = alike (e ∙ sym e')
  alike-fine (no-refusal e) (in_list o q) = yours o (by_list q)
  alike-fine (in_list o q) d = mine o (by_list q)

  -- Q is what is left of the two states, by the refusals.
  pub twin : (Q : ℕ → ℕ → Type 0) {t t' : ℕ} (r r' : ℕ) (a a' : Answer) → (IsRefusal a → ⊥) → (IsRefusal a' → ⊥) → Alike t t' r r'
      → ((k k' : ℕ) → Q (suc k) (suc k')) → (r ≡ 0 → r' ≡ 0 → Q 0 0 × SameAnswer l l' m m' t t' a a')
      → Compare l l' m m' t t' (says (answers r a)) (says (answers r' a')) (Q r r')
  twin Q zero zero a a' g g' d u f = let x = f refl refl in (inl (x.1, refl), λ s. x.0)
  twin Q zero (suc r') a a' g g' (alike e) u f = absurd (omega arith)
  twin Q zero (suc r') a a' g g' (mine o e) u f = absurd (omega arith)
  twin Q zero (suc r') a a' g g' (yours o e) u f = (inr (inr e), λ s. absurd (g (refusal-left s.0)))
  twin Q (suc r) zero a a' g g' (alike e) u f = absurd (omega arith)
  twin Q (suc r) zero a a' g g' (mine o e) u f = (inr (inl e), λ s. absurd (g' (refusal-right s.0)))
  twin Q (suc r) zero a a' g g' (yours o e) u f = absurd (omega arith)
  twin Q {t = t} {t' = t'} (suc r) (suc r') a a' g g' (alike e) u f =
      (inl (subst (λ k. SameAnswer l l' m m' t t' (refused (suc r)) (refused k)) e (word (elim [ ])), refl), λ s. u r r')
  twin Q (suc r) (suc r') a a' g g' (mine o e) u f = (inr (inl e), λ s. u r r')
  twin Q (suc r) (suc r') a a' g g' (yours o e) u f = (inr (inr e), λ s. u r r')

-- What a call of tickets t and t' gives back, and the states that it leaves.
abbrev pub Step : ℕ → ℕ → List ℕ → List ℕ → Model → Model → ℕ → ℕ → Stepped → Stepped → Type 0
Step l l' ts ts' m m' t t' x x' = Compare l l' m m' t t' x.1 x'.1 (Match l l' ts ts' x.0 x'.0)
