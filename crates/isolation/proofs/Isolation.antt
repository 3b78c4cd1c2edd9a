-- What is done on other lines reaches a line's answers only through the numbers, places and refusals that the request lists.
-- Assumes nothing.
use mathlib.Core.Path.{◌≡◌, fun_ext, subst⁻¹}
use mathlib.Core.List.{List, [], ◌∷◌, ◌++◌}
use Prim.Native.Nat.{ℕ}
use Rattle.model.specs.Calls.{Call, BEGIN, on, BRANCH}
use Rattle.model.specs.Model.{Limits, Model, no_model}
use Rattle.model.specs.OnModel.{on_model}
use Rattle.model.specs.Run.{run}
use Rattle.model.proofs.Lists.Runs.{run-append}
use Rattle.model.proofs.Calls.Kept.Every.{sound-after}
use Rattle.isolation.specs.Isolation.{SameCall, put, weave, set_windows, write, append, publish, branch, query, model_gives, Twins, end, first, second, begin, both, Agree, Match, after, IsolatedBy, Isolated}
use Rattle.isolation.proofs.Kept.{Kept}
use Rattle.isolation.proofs.Match.{match-sym, match-refl}
use Rattle.isolation.proofs.Tickets.{pair}
use Rattle.isolation.proofs.Frame.{match-aside}
use Rattle.isolation.proofs.Begins.{match-branch}
use Rattle.isolation.proofs.Refusals.{Step}
use Rattle.isolation.proofs.Calls.{twin-begin, twin-put, twin-windows, twin-weave}
use Rattle.isolation.proofs.Queries.{twin-query}
use Rattle.isolation.proofs.Acts.{twin-branch, twin-publish, twin-write, twin-append}

step : (L : Limits) {l l' : ℕ} {ts ts' : List ℕ} {m m' : Model} → Kept L m → Kept L m' → Match l l' ts ts' m m'
    → {t t' : ℕ} {c c' : Call} → SameCall l l' ts ts' m m' t t' c c' → Step l l' ts ts' m m' t t' (on_model L m c) (on_model L m' c')
unfolding on_model
step L S S' M (put {t = t} {t' = t'} s i bytes) = twin-put L M S S' t t' (pair M S S' s) i bytes
step L S S' M (weave {t = t} {t' = t'} s e e') = twin-weave L M S S' t t' (pair M S S' s) e e'
step L S S' M (set_windows x) = twin-windows L M x
step L S S' M (write {t = t} {t' = t'} s f) = twin-write L M S S' t t' (pair M S S' s) f
step L S S' M (append {t = t} {t' = t'} s) = twin-append L M S S' t t' (pair M S S' s)
step L S S' M (publish minute) = twin-publish L M minute
step L S S' M (branch v) = twin-branch L M S S' v
step L S S' M (query q) = twin-query L M q

kept : (L : Limits) (cs : List Call) → Kept L (after L cs)
kept L cs = sound-after L tt cs

-- One call more.
after-snoc : (L : Limits) (cs : List Call) (c : Call) → after L (cs ++ c ∷ []) ≡ (on_model L (after L cs) c).0
unfolding run
after-snoc L cs c = run-append (on_model L) no_model cs (c ∷ [])

-- From matched states the line's answers agree up to the first that a listed refusal changes.
agrees : (L : Limits) {l l' : ℕ} {ts ts' : List ℕ} {b b' cs cs' : List Call} → Match l l' ts ts' (after L b) (after L b') → (w : Twins L l l' ts ts' b b' cs cs')
    → Agree L (model_gives L) w
unfolding Agree
agrees L M end = M
agrees L {l = l} {l' = l'} M (first {before = b} {before' = b'} {c = c} a w) =
    agrees L (rw (after-snoc L b c) (match-aside L l l' (after L b) (after L b') (kept L b) M a)) w
agrees L {l = l} {l' = l'} M (second {before = b} {before' = b'} {c = c} a w) =
    agrees L (rw (after-snoc L b' c) (match-sym (match-aside L l' l (after L b') (after L b) (kept L b') (match-sym M) a))) w
agrees L M (begin {before = b} {before' = b'} n w) =
    let x = twin-begin L M (kept L b) (kept L b') n in
    (x.0, λ s. agrees L (rw (after-snoc L b (BEGIN n), after-snoc L b' (BEGIN n)) (x.1 s)) w)
agrees L M (both {before = b} {before' = b'} {c = c} {c' = c'} s w) =
    let x = step L (kept L b) (kept L b') M s in
    (x.0, λ e. agrees L (rw (after-snoc L b c, after-snoc L b' c') (x.1 e)) w)

-- THE THEOREM, of the model's answers, and of others that are the same.
by-model : (L : Limits) → IsolatedBy L (model_gives L)
by-model L = record {
  agree = λ l l' ts ts' b b' M cs cs' w. agrees L M w;
  itself = λ l ts b T. match-refl l ts (after L b) T;
  begins = λ l l' ts ts' b b' T ws v k k' same e e'.
      rw (after-snoc L b (on l (BRANCH v)), after-snoc L b' (on l' (BRANCH v))) (match-branch L l l' (kept L b) (kept L b') T ws v same k k' e e');
}

pub isolated : Isolated
isolated L gives e = subst⁻¹ (IsolatedBy L) (fun_ext (λ cs. fun_ext (e cs))) (by-model L)
