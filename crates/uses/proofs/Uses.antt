-- The corollaries of one list of calls, each by its field of the third demand. Assumes nothing.
use mathlib.Core.Path.{◌≡◌, refl, sym, ◌∙◌}
use mathlib.Core.Bool.{true, false}
use mathlib.Core.List.{List, [], ◌∷◌, ◌++◌}
use Prim.Native.Nat.{ℕ, zero, suc, ◌≤◌, ◌<◌}
use native.Mathlib.Omega.{arith}
use lib.ListN.{get_or}
use Rattle.model.specs.Calls.{Call, on, BRANCH, line_is, says}
use Rattle.model.specs.Stamp.{stamps_upto}
use Rattle.model.specs.Model.{line_at}
use Rattle.model.specs.Run.{run, model_after}
use Rattle.model.specs.Due.{Open, complete_up_to}
use Rattle.model.specs.Snapshot.{Snapshot, tree_of, snapshot_at}
use Rattle.model.specs.Example.{computes}
use Rattle.versions.specs.Store.{Areas}
use Rattle.demands.specs.Demands.{Accepted, Published, ThirdDemand}
use Rattle.demands.specs.Example as Example
use Rattle.demands.proofs.Demanded.{demanded}
use Rattle.uses.specs.Accepted.{limits}
use Rattle.uses.specs.Uses.{ExampleAnswers, ReadsAs, Both, calls, version2, version3, gives, later, Compared, Kept, Reaches, Held, Fetches, Begins}
use Rattle.uses.proofs.Laws.{every-answer, same-recent, as-snapshot, lowest-listed, carried, below-stamp}

pub example-answers : ExampleAnswers
example-answers a accepted = (demanded Example.limits a accepted Example.calls).answers.same ∙ Example.by-model

-- ---- the model after these calls, by computation

second_is : snapshot_at (model_after limits calls) 1 2 ≡ version2
unfolding computes run tree_of stamps_upto limits calls version2
second_is = refl

third-is : snapshot_at (model_after limits calls) 1 3 ≡ version3
unfolding computes run tree_of stamps_upto limits calls version3
third-is = refl

published : (k : ℕ) → k ≤ 3 → Published limits calls 1 k
unfolding computes run limits calls
published k p = record { line = omega arith; upto = p }

module _ (a : Areas) (accepted : Accepted limits a) where
  demand : ThirdDemand limits a calls
  demand = demanded limits a accepted calls

  read : (k : ℕ) → k ≤ 3 → ReadsAs (gives a) 1 k (snapshot_at (model_after limits calls) 1 k)
  read k p = let q = published k p in as-snapshot limits a calls 1 k ((demand.compared 1 q.line).versions k q.upto)

  both : Both (gives a) 1
  both = record { second = rw second_is at (read 2 (omega arith)); third = rw third-is at (read 3 (omega arith)) }

  pub compared : Compared a
  unfolding computes run tree_of stamps_upto limits calls version3
  compared =
      let c = demand.compared 1 (published 3 (omega arith)).line in
      let v = c.versions 3 (omega arith) in
      let l = lowest-listed limits a calls 1 3 v in
      record { recent = c.recent; both = both; tree = v.tree; since = λ p q. (l p q).from; lowest = λ p q. (l p q).lowest }

  -- ---- more calls

  module _ (more : List Call) where
    stays : (k : ℕ) → k ≤ 3 → (s : Snapshot) → ReadsAs (gives a) 1 k s → ReadsAs (later a more) 1 k s
    stays k p s r = let x = demand.kept more 1 k (published k p) in carried (gives a) (later a more) 1 1 k s x.reads x.views x.stamps x.sizes r

    pub kept : Kept a more
    kept =
        let x = demand.kept more 1 3 (published 3 (omega arith)) in
        record {
          both = record { second = stays 2 (omega arith) version2 both.second; third = stays 3 (omega arith) version3 both.third };
          snapshot = x.snapshot ∙ third-is;
          recent = λ n e.
              let z = ((demanded limits a accepted (calls ++ more)).compared 1 x.published.line).recent in
              omega (arith, x.published.upto, same-recent n (line_at (model_after limits (calls ++ more)) 1).published (sym e ∙ z));
        }

  -- ---- PUBLISH

  -- The five minutes are outside the windows.
  outside : (i : ℕ) → i < 5 → Open (model_after limits calls).windows (get_or (599 ∷ 660 ∷ 9999 ∷ 20 ∷ 21 ∷ []) i 0)
  unfolding computes run limits calls
  outside zero p = record { accepted = omega arith; outside = refl }
  outside (suc zero) p = record { accepted = omega arith; outside = refl }
  outside (suc (suc zero)) p = record { accepted = omega arith; outside = refl }
  outside (suc (suc (suc zero))) p = record { accepted = omega arith; outside = refl }
  outside (suc (suc (suc (suc zero)))) p = record { accepted = omega arith; outside = refl }
  outside (suc (suc (suc (suc (suc i))))) p = absurd (omega arith)

  pub reaches : Reaches a
  unfolding computes run limits calls complete_up_to
  reaches =
      let r = demand.reaches 1 (published 3 (omega arith)).line in
      record { exact = r.exact; comes = r.comes (599 ∷ 660 ∷ 9999 ∷ 20 ∷ 21 ∷ []) 20 outside (outside 3 (omega arith)) (omega arith) }

  pub held-there : Held a
  unfolding computes run limits calls
  held-there =
      let first = (demand.held 1 659).holds (omega arith) (omega arith) refl in
      record {
        in_first = first;
        in_second = (demand.held 0 19).holds (omega arith) (omega arith) refl;
        still = (demand.held 1 659).still first;
        after_first = λ e. let z : false ≡ true = (demand.held 1 660).only e in let q : ◌≡◌ {A = ℕ} 0 1 = cc in omega arith;
        after_second = λ e. let z : false ≡ true = (demand.held 0 20).only e in let q : ◌≡◌ {A = ℕ} 0 1 = cc in omega arith;
      }

  -- ---- stamps

  pub fetches : Fetches a
  unfolding version2 version3
  fetches =
      let there = both.third.stamps in
      record {
        upto = λ w e. (demand.fetches 1 3 2 w e).upto;
        same = (demand.fetches 1 3 2 2 (there 2 (omega arith))).same 2 (omega arith) (omega arith);
        alike = (demand.fetches 1 2 1 2 (both.second.stamps 1 (omega arith))).alike 3 (there 1 (omega arith));
        changed = below-stamp limits a accepted calls 1 1 3 1 (there 1 (omega arith));
        new = below-stamp limits a accepted calls 1 1 3 2 (there 2 (omega arith));
      }

  -- ---- a line that begins

  begun : gives a (on 1 (BRANCH 3)) ≡ says (line_is 2)
  unfolding computes run limits calls
  begun = (every-answer limits a accepted calls (on 1 (BRANCH 3))).same

  pub begins : Begins a
  begins =
      let b = demand.begins 1 3 2 begun in
      let reads : (k : ℕ) → k ≤ 3 → (s : Snapshot) → ReadsAs (gives a) 1 k s → ReadsAs (later a (on 1 (BRANCH 3) ∷ [])) 2 k s =
      λ k p s r. carried (gives a) (later a (on 1 (BRANCH 3) ∷ [])) 1 2 k s
      (λ offset len buffer. b.reads k offset len buffer p) (λ i. b.views k i p) (λ i. b.stamps k i p) (b.sizes k p) r in
      record {
        begun = begun;
        recent = b.recent;
        both = record { second = reads 2 (omega arith) version2 both.second; third = reads 3 (omega arith) version3 both.third };
      }
