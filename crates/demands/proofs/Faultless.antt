-- The model never answers 3 or 19: no row that it reads gives them.
-- Assumes nothing.
use mathlib.Core.Path.{◌≡◌}
use mathlib.Core.Bool.{Bool, true, false, cond}
use mathlib.Core.List.{List, [], ◌∷◌}
use mathlib.Core.Logic.{◌≢◌}
use Prim.Native.Nat.{ℕ, zero, suc, ◌<◌}
use native.Mathlib.Omega.{arith}
use lib.ListN.{length, get_or}
use Rattle.table.specs.Table.{holds, Row, ◌gives◌, first_refusal, begin_rows, put_rows, assign_rows, weave_rows, line_rows, publish_rows, window_rows, branch_rows, size_rows, read_rows, page_rows}
use Rattle.windows.specs.Windows.{inside_some}
use Rattle.windows.specs.Listed.{text_number}
use Rattle.model.specs.Calls.{Call, BEGIN, PUT, WEAVE, SETWINDOWS, on, Act, WRITE, APPEND, PUBLISH, BRANCH, ask, Query, read, size, recent, stamp, view, Answer, refused, published_is, waiting, held, says, answers}
use Rattle.model.specs.History.{due}
use Rattle.model.specs.Model.{Limits, Model, history}
use Rattle.model.specs.OnModel.{model_outcome, on_line, on_model, either}
use Rattle.model.specs.Run.{outcomes}
use Rattle.demands.specs.Demands.{NoFault}

-- No row gives k.
abbrev Without : ℕ → List Row → Type 0
Without k [] = Unit
Without k ((c gives j) ∷ rows) = (j ≢ k) × Without k rows

row-without : (b : Bool) (j n k : ℕ) → j ≢ k → n ≢ k → cond b j n ≢ k
row-without true j n k p q = p
row-without false j n k p q = q

without : (rows : List Row) (k : ℕ) → Without (suc k) rows → first_refusal rows ≢ suc k
unfolding first_refusal
without [] k w = omega arith
without ((c gives j) ∷ rows) k w = row-without (holds c) j (first_refusal rows) (suc k) w.0 (without rows k w.1)

-- An answer by a number that is not k, and values that are no refusal.
answered : (n k : ℕ) (x : Answer) → n ≢ k → (x ≡ refused k → ⊥) → answers n x ≡ refused k → ⊥
answered zero k x p q e = q e
answered (suc n) k x p q e = p (cc)

by_rows : (rows : List Row) (x : Answer) → Without 3 rows → Without 19 rows → NoFault x → NoFault (answers (first_refusal rows) x)
by_rows rows x p q f = record {
  not3 = answered (first_refusal rows) 3 x (without rows 2 p) f.not3;
  not19 = answered (first_refusal rows) 19 x (without rows 18 q) f.not19;
}

zero_one : ◌≡◌ {A = ℕ} 0 1 → ⊥
zero_one z = omega arith

-- An answer that is no refusal at all.
fine : (x : Answer) → ((k : ℕ) → x ≡ refused k → ⊥) → NoFault x
fine x f = record { not3 = f 3; not19 = f 19 }

published-fine : (h b : Bool) (v : ℕ) → NoFault (either h held (either b (published_is v) waiting))
published-fine true b v = fine _ λ k e. zero_one (cc)
published-fine false true v = fine _ λ k e. zero_one (cc)
published-fine false false v = fine _ λ k e. zero_one (cc)

query-fine : (L : Limits) (m : Model) (l : ℕ) (q : Query) → NoFault (model_outcome L m l q).answer
unfolding model_outcome line_rows size_rows read_rows page_rows
query-fine L m l (read v offset len buffer) = by_rows _ _ (omega arith) (omega arith) (fine _ λ k e. zero_one (cc))
query-fine L m l (size v) = by_rows _ _ (omega arith) (omega arith) (fine _ λ k e. zero_one (cc))
query-fine L m l recent = by_rows _ _ (omega arith) (omega arith) (fine _ λ k e. zero_one (cc))
query-fine L m l (stamp v p) = by_rows _ _ (omega arith) (omega arith) (fine _ λ k e. zero_one (cc))
query-fine L m l (view v p) = fine _ λ k e. zero_one (cc)

line-fine : (L : Limits) (m : Model) (l : ℕ) (a : Act) → NoFault (on_line L m l a).1.answer
unfolding on_line assign_rows publish_rows branch_rows
line-fine L m l (WRITE t f) = by_rows _ _ (omega arith) (omega arith) (fine _ λ k e. zero_one (cc))
line-fine L m l (APPEND t) = by_rows _ _ (omega arith) (omega arith) (fine _ λ k e. zero_one (cc))
line-fine L m l (PUBLISH minute) = by_rows _ _ (omega arith) (omega arith) (published-fine (inside_some m.windows minute) (due (history m l)) _)
line-fine L m l (BRANCH v) = by_rows _ _ (omega arith) (omega arith) (fine _ λ k e. zero_one (cc))
line-fine L m l (ask q) = query-fine L m l q

pub step-fine : (L : Limits) (m : Model) (c : Call) → NoFault (on_model L m c).1.answer
unfolding on_model begin_rows put_rows weave_rows text_number window_rows
step-fine L m (BEGIN n) = by_rows _ _ (omega arith) (omega arith) (fine _ λ k e. zero_one (cc))
step-fine L m (PUT t i bytes) = by_rows _ _ (omega arith) (omega arith) (fine _ λ k e. zero_one (cc))
step-fine L m (WEAVE t) = by_rows _ _ (omega arith) (omega arith) (fine _ λ k e. zero_one (cc))
step-fine L m (SETWINDOWS t) = by_rows _ _ (omega arith) (omega arith) (fine _ λ k e. zero_one (cc))
step-fine L m (on l a) = line-fine L m l a

pub run-fine : (L : Limits) (m : Model) (cs : List Call) (i : ℕ) → i < length cs → NoFault (get_or (outcomes (on_model L) m cs) i (says waiting)).answer
unfolding outcomes
run-fine L m [] i p = absurd (omega arith)
run-fine L m (c ∷ cs) zero p = step-fine L m c
run-fine L m (c ∷ cs) (suc i) p = run-fine L (on_model L m c).0 cs i (omega arith)
