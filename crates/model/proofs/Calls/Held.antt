-- One PUBLISH, by the line, the minute and the windows: when it is held, when it waits, and what it moves.
-- Assumes nothing.
use mathlib.Core.Path.{◌≡◌, refl, sym, ap}
use mathlib.Core.Logic.{◌⊎◌, inl, inr}
use mathlib.Core.Bool.{Bool, true, false}
use Prim.Native.Nat.{ℕ, zero, suc, ◌≤◌, ◌<◌}
use native.Mathlib.Omega.{arith}
use lib.ListN.{length}
use Rattle.table.specs.Table.{unless, publish_rows}
use Rattle.table.proofs.Table.{none, skip, first}
use Rattle.windows.specs.Windows.{inside_some}
use Rattle.model.specs.Calls.{on, PUBLISH, Answer, waiting, held, published_is, Outcome, says, answers}
use Rattle.model.specs.History.{due}
use Rattle.model.specs.Model.{Limits, Model, line_at, history}
use Rattle.model.specs.OnModel.{either, publish_number, published, on_line, on_model}
use Rattle.model.specs.Due.{Open}

-- ---- by the table's number, whether the minute is inside a window, and whether a version is due

abbrev answer_by : ℕ → Bool → Bool → ℕ → Answer
answer_by r h d v = answers r (either h held (either d (published_is v) waiting))

abbrev moved_by : {A : Type 0} → ℕ → Bool → Bool → A → A → A
moved_by r h d m p = unless r m (either h m (either d p m))

-- Held says that the minute is inside a window.
held_by : (r : ℕ) (h d : Bool) (v : ℕ) → answer_by r h d v ≡ held → h ≡ true
held_by zero true d v e = refl
held_by zero false true v e = absurd (let z : ◌≡◌ {A = ℕ} 0 1 = cc in omega arith)
held_by zero false false v e = absurd (let z : ◌≡◌ {A = ℕ} 0 1 = cc in omega arith)
held_by (suc r) h d v e = absurd (let z : ◌≡◌ {A = ℕ} 0 1 = cc in omega arith)

-- Waiting says that it is not due.
waiting-by : (r : ℕ) (h d : Bool) (v : ℕ) → answer_by r h d v ≡ waiting → d ≡ false
waiting-by zero true d v e = absurd (let z : ◌≡◌ {A = ℕ} 0 1 = cc in omega arith)
waiting-by zero false true v e = absurd (let z : ◌≡◌ {A = ℕ} 0 1 = cc in omega arith)
waiting-by zero false false v e = refl
waiting-by (suc r) h d v e = absurd (let z : ◌≡◌ {A = ℕ} 0 1 = cc in omega arith)

undue-by : {A : Type 0} (r : ℕ) (h d : Bool) (m p : A) → d ≡ false → moved_by r h d m p ≡ m
unfolding unless
undue-by zero true d m p e = refl
undue-by zero false d m p e = rw e
undue-by (suc r) h d m p e = refl

inside-by : {A : Type 0} (r : ℕ) (h d : Bool) (m p : A) → h ≡ true → moved_by r h d m p ≡ m
unfolding unless
inside-by zero h d m p e = rw e
inside-by (suc r) h d m p e = refl

moves-by : {A : Type 0} (r : ℕ) (h d : Bool) (m p : A)
    → ((moved_by r h d m p ≡ p) × (d ≡ true)) ⊎ ((moved_by r h d m p ≡ m) × (r ≡ 0 → h ≡ false → d ≡ false))
unfolding unless
moves-by zero true d m p = inr (refl, λ z e. absurd (let q : ◌≡◌ {A = ℕ} 0 1 = cc in omega arith))
moves-by zero false true m p = inl (refl, refl)
moves-by zero false false m p = inr (refl, λ z e. refl)
moves-by (suc r) h d m p = inr (refl, λ z e. absurd (omega arith))

-- ---- of a model

-- What PUBLISH of line l at a minute moves: a due version is published; or nothing, which outside the windows says that none is due.
pub record Moved (L : Limits) (m : Model) (l minute : ℕ) : Type 0 where
  pub moved : (on_model L m (on l (PUBLISH minute))).0 ≡ published L m l
  pub due : due (history m l) ≡ true

pub record Still (L : Limits) (m : Model) (l minute : ℕ) : Type 0 where
  pub still : (on_model L m (on l (PUBLISH minute))).0 ≡ m
  pub undue : Open m.windows minute → due (history m l) ≡ false

module _ (L : Limits) (m : Model) (l minute : ℕ) where
  pub publish-accepted : l < length m.lines → minute ≤ 10079 → publish_number L m l minute ≡ 0
  unfolding publish_rows
  publish-accepted there accepted = sym (first (skip there (skip accepted none)))

  pub publish-moves : l < length m.lines → Moved L m l minute ⊎ Still L m l minute
  unfolding on_model on_line
  publish-moves there = elim (moves-by (publish_number L m l minute) (inside_some m.windows minute) (due (history m l)) m (published L m l)) [
    | inl p ↦ inl (record { moved = p.0; due = p.1 })
    | inr p ↦ inr (record { still = p.0; undue = λ o. p.1 (publish-accepted there o.accepted) o.outside })
  ]

  -- Where no version is due, nothing moves.
  pub undue-still : due (history m l) ≡ false → (on_model L m (on l (PUBLISH minute))).0 ≡ m
  unfolding on_model on_line
  undue-still e = undue-by (publish_number L m l minute) (inside_some m.windows minute) (due (history m l)) m (published L m l) e

  -- Outside the windows it says that it waits where no version is due, and only then.
  pub waits : l < length m.lines → Open m.windows minute → due (history m l) ≡ false → (on_model L m (on l (PUBLISH minute))).1 ≡ says waiting
  unfolding on_model on_line
  waits there o e = rw (publish-accepted there o.accepted, o.outside, e)

  pub waits_back : (on_model L m (on l (PUBLISH minute))).1 ≡ says waiting → due (history m l) ≡ false
  unfolding on_model on_line
  waits_back e =
      waiting-by
      (publish_number L m l minute)
      (inside_some m.windows minute)
      (due (history m l))
      (suc (line_at m l).published)
      (ap (λ (o : Outcome). o.answer) e)

  -- At an accepted minute inside a window it says that it is held, due or not.
  pub publish-held : l < length m.lines → minute ≤ 10079 → inside_some m.windows minute ≡ true → (on_model L m (on l (PUBLISH minute))).1 ≡ says held
  unfolding on_model on_line
  publish-held there accepted e = rw (publish-accepted there accepted, e)

  -- It says so inside a window only, and then nothing moves.
  pub held-inside : (on_model L m (on l (PUBLISH minute))).1 ≡ says held → inside_some m.windows minute ≡ true
  unfolding on_model on_line
  held-inside e =
      held_by
      (publish_number L m l minute)
      (inside_some m.windows minute)
      (due (history m l))
      (suc (line_at m l).published)
      (ap (λ (o : Outcome). o.answer) e)

  pub held-still : (on_model L m (on l (PUBLISH minute))).1 ≡ says held → (on_model L m (on l (PUBLISH minute))).0 ≡ m
  unfolding on_model on_line
  held-still e =
      inside-by (publish_number L m l minute) (inside_some m.windows minute) (due (history m l)) m (published L m l) (held-inside e)
