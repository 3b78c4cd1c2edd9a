-- Lists of calls: one list after another, and a run that another run's states stand for.
-- Assumes nothing.
use mathlib.Core.Path.{◌≡◌, refl, ap}
use mathlib.Core.List.{List, [], ◌∷◌, ◌++◌}
use Prim.Native.Nat.{suc}
use lib.ListN.{length}
use Rattle.model.specs.Calls.{Call, Outcome}
use Rattle.model.specs.Run.{run, outcomes}

module _ {S : Type 0} (step : S → Call → S × Outcome) where
  pub run-append : (s : S) (cs ds : List Call) → run step s (cs ++ ds) ≡ run step (run step s cs) ds
  unfolding run
  run-append s [] ds = refl
  run-append s (c ∷ cs) ds = run-append (step s c).0 cs ds

  pub outcomes-append : (s : S) (cs ds : List Call) → outcomes step s (cs ++ ds) ≡ outcomes step s cs ++ outcomes step (run step s cs) ds
  unfolding run outcomes
  outcomes-append s [] ds = refl
  outcomes-append s (c ∷ cs) ds = ap (λ l. (step s c).1 ∷ l) (outcomes-append (step s c).0 cs ds)

  pub outcomes-length : (s : S) (cs : List Call) → length (outcomes step s cs) ≡ length cs
  unfolding outcomes
  outcomes-length s [] = refl
  outcomes-length s (c ∷ cs) = ap suc (outcomes-length (step s c).0 cs)

  -- What every step keeps, every list keeps.
  pub run-keeps : (P : S → Type 0) → ((s : S) (c : Call) → P s → P (step s c).0) → (s : S) (cs : List Call) → P s → P (run step s cs)
  unfolding run
  run-keeps P keeps s [] p = p
  run-keeps P keeps s (c ∷ cs) p = run-keeps P keeps (step s c).0 cs (keeps s c p)

-- Where a step of the one from im t answers as the other's from t does and leaves the image of what that leaves, so does every list.
module _ {S T : Type 0} (step₁ : S → Call → S × Outcome) (step₂ : T → Call → T × Outcome) (im : T → S) (P : T → Type 0)
    (keeps : (t : T) (c : Call) → P t → P (step₂ t c).0)
    (agrees : (t : T) (c : Call) → P t → step₁ (im t) c ≡ (im (step₂ t c).0, (step₂ t c).1)) where
  pub run-image : (t : T) (cs : List Call) → P t → run step₁ (im t) cs ≡ im (run step₂ t cs)
  unfolding run
  run-image t [] p = refl
  run-image t (c ∷ cs) p = rw (agrees t c p) (run-image (step₂ t c).0 cs (keeps t c p))

  pub outcomes-image : (t : T) (cs : List Call) → P t → outcomes step₁ (im t) cs ≡ outcomes step₂ t cs
  unfolding outcomes
  outcomes-image t [] p = refl
  outcomes-image t (c ∷ cs) p = rw (agrees t c p) (ap (λ l. (step₂ t c).1 ∷ l) (outcomes-image (step₂ t c).0 cs (keeps t c p)))
