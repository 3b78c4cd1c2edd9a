-- What the third demand gives of any list of calls. Assumes nothing.
use mathlib.Core.Path.{◌≡◌, refl, sym, ap, ◌∙◌}
use mathlib.Core.List.{List, [], ◌∷◌, ◌++◌}
use Prim.Native.Nat.{ℕ, zero, suc, ◌<◌}
use native.Mathlib.Decide.{ℕ_discrete}
use native.Mathlib.Omega.{arith}
use lib.ListN.{length, get_or, length-append, get_or-append}
use lib.Seq.{get_or-append_seam}
use Rattle.model.specs.Calls.{Call, on, READ, SIZE, STAMP, VIEW, waiting, size_is, recent_is, stamp_is, Outcome, says}
use Rattle.model.specs.History.{History, version_at}
use Rattle.model.specs.Stamp.{stamp_at, stamps_upto, LowestSame}
use Rattle.model.specs.Model.{Limits, no_model}
use Rattle.model.specs.OnModel.{on_model}
use Rattle.model.specs.Run.{run, outcomes, model_after}
use Rattle.model.specs.Snapshot.{Snapshot, snapshot_at}
use Rattle.versions.specs.Store.{Areas}
use Rattle.demands.specs.Run.{on_store, formatted_state, store_after, asked}
use Rattle.demands.specs.Demands.{Accepted, ReadsInTurn, history_after}
use Rattle.demands.proofs.Demanded.{demanded}
use Rattle.uses.specs.Uses.{EveryAnswer, ReadsAs}

-- The outcome of a list's last call.
last : {S : Type 0} (step : S → Call → S × Outcome) (s : S) (cs : List Call) (c : Call)
    → get_or (outcomes step s (cs ++ c ∷ [])) (length cs) (says waiting) ≡ (step (run step s cs) c).1
unfolding run outcomes
last step s [] c = refl
last step s (d ∷ cs) c = last step (step s d).0 cs c

pub every-answer : EveryAnswer
every-answer L a accepted cs c =
    let d = (demanded L a accepted (cs ++ c ∷ [])).answers in
    let here = last on_store (formatted_state L a) cs c in
    let sound = rw here at (d.sound (length cs) (omega (arith, length-append cs (c ∷ [])))) in
    record {
      same = sym here ∙ ap (λ (os : List Outcome). get_or os (length cs) (says waiting)) d.same ∙ last (on_model L) no_model cs c;
      not3 = sound.not3;
      not19 = sound.not19;
    }

pub same-recent : (m n : ℕ) → says (recent_is m) ≡ says (recent_is n) → m ≡ n
same-recent m n e = let z : recent_is m ≡ recent_is n = ap (λ (o : Outcome). o.answer) e in cc

-- The stamps of the first n pages, one by one.
stamps-length : (h : History) (v n : ℕ) → length (stamps_upto h v n) ≡ n
unfolding stamps_upto
stamps-length h v zero = refl
stamps-length h v (suc n) = omega (arith, length-append (stamps_upto h v n) (stamp_at h v n ∷ []), stamps-length h v n)

stamp-listed : (h : History) (v n p : ℕ) → p < n → get_or (stamps_upto h v n) p 0 ≡ stamp_at h v p
unfolding stamps_upto
stamp-listed h v zero p q = absurd (omega arith)
stamp-listed h v (suc n) p q = elim (ℕ_discrete p n) [
  | yes e ↦
      rw e (ap (λ (k : ℕ). get_or (stamps_upto h v n ++ stamp_at h v n ∷ []) k 0) (sym (stamps-length h v n)) ∙ get_or-append_seam (stamps_upto h v n) (stamp_at h v n) [] 0)
  | no r ↦
      get_or-append (stamps_upto h v n) (stamp_at h v n ∷ []) 0 p (omega (arith, stamps-length h v n))
      ∙ stamp-listed h v n p (omega arith)
]

-- A version that reads in turn reads as the model's snapshot.
pub as-snapshot : (L : Limits) (a : Areas) (cs : List Call) (l k : ℕ) → ReadsInTurn L a cs l k
    → ReadsAs (asked (store_after L a cs)) l k (snapshot_at (model_after L cs) l k)
as-snapshot L a cs l k r =
    let h = history_after L cs l in
    record {
      reads = λ offset len buffer p q. r.reads offset len buffer (omega (arith, r.whole)) q;
      views = r.views;
      stamps = λ p q. r.stamps p q ∙ ap (λ (w : ℕ). says (stamp_is w)) (sym (stamp-listed h k (version_at h k).size p q));
      sizes = r.sizes ∙ ap (λ (n : ℕ). says (size_is n)) (sym r.whole);
    }

-- Its stamps there are the lowest.
pub lowest-listed : (L : Limits) (a : Areas) (cs : List Call) (l k : ℕ) → ReadsInTurn L a cs l k
    → (p : ℕ) → p < (version_at (history_after L cs l) k).size
    → LowestSame (history_after L cs l) (get_or (snapshot_at (model_after L cs) l k).stamps p 0) k p
lowest-listed L a cs l k r p q = rw (stamp-listed (history_after L cs l) k (version_at (history_after L cs l) k).size p q) (r.lowest p q)

-- What gives back the same of a version as another reads as the same.
pub carried : (g g' : Call → Outcome) (l l' v : ℕ) (s : Snapshot)
    → ((offset len : ℕ) (buffer : List ℕ) → g' (on l' (READ v offset len buffer)) ≡ g (on l (READ v offset len buffer)))
    → ((p : ℕ) → g' (on l' (VIEW v p)) ≡ g (on l (VIEW v p)))
    → ((p : ℕ) → g' (on l' (STAMP v p)) ≡ g (on l (STAMP v p)))
    → g' (on l' (SIZE v)) ≡ g (on l (SIZE v)) → ReadsAs g l v s → ReadsAs g' l' v s
carried g g' l l' v s reads views stamps sizes r =
    record {
      reads = λ offset len buffer p q. reads offset len buffer ∙ r.reads offset len buffer p q;
      views = λ p q. views p ∙ r.views p q;
      stamps = λ p q. stamps p ∙ r.stamps p q;
      sizes = sizes ∙ r.sizes;
    }

-- The version below a page's stamp has another page there, or none: it is the one from u up to v that differs.
pub below-stamp : (L : Limits) (a : Areas) → Accepted L a → (cs : List Call) (l u v p : ℕ)
    → asked (store_after L a cs) (on l (STAMP v p)) ≡ says (stamp_is (suc u))
    → asked (store_after L a cs) (on l (VIEW u p)) ≡ asked (store_after L a cs) (on l (VIEW v p)) → ⊥
below-stamp L a accepted cs l u v p e z =
    let f = (demanded L a accepted cs).fetches l v p (suc u) e in
    let x = f.differed u (omega arith) in
    elim (ℕ_discrete x.at u) [
      | yes same ↦ x.other (rw same z)
      | no n ↦ x.other (f.same x.at (omega (arith, x.from)) (omega (arith, x.below)))
    ]
