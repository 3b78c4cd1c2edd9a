-- The model is sound at the start, after every call, and after every list of calls.
-- Assumes nothing.
use mathlib.Core.Path.{◌≡◌, refl}
use mathlib.Core.Bool.{Bool, true, false}
use mathlib.Core.List.{List}
use Prim.Native.Nat.{ℕ, zero, suc, ◌<◌}
use native.Mathlib.Omega.{arith}
use lib.ListN.{length}
use Rattle.table.proofs.Table.{unless-keeps}
use Rattle.windows.specs.Windows.{inside, inside_some}
use Rattle.windows.specs.Listed.{text_number}
use Rattle.model.specs.Calls.{Call, BEGIN, PUT, WEAVE, SETWINDOWS, on, Act, WRITE, APPEND, PUBLISH, BRANCH, ask}
use Rattle.model.specs.History.{blob_size, due}
use Rattle.model.specs.Model.{Limits, Model, no_model, history}
use Rattle.model.specs.OnModel.{either, begin_number, put_number, weave_number, assign_number, publish_number, branch_number, begun, filled_at, woven, with_windows, assigned, published, branched, on_line, on_model}
use Rattle.model.specs.Run.{run, model_after}
use Rattle.model.proofs.Model.Sound.{SoundGiven, LineSound}
use Rattle.model.proofs.Model.Passed.{publish-passed}
use Rattle.model.proofs.Area.LayoutLaws.{nodes-used-none, pages-used-none}
use Rattle.model.proofs.Lists.Runs.{run-keeps}
use Rattle.model.proofs.Calls.Kept.Begin.{begun-sound}
use Rattle.model.proofs.Calls.Kept.Put.{put-sound}
use Rattle.model.proofs.Calls.Kept.Weave.{weave-sound}
use Rattle.model.proofs.Calls.Kept.SetWindows.{windows-sound}
use Rattle.model.proofs.Calls.Kept.Assign.{assign-sound}
use Rattle.model.proofs.Calls.Kept.Publish.{publish-sound}
use Rattle.model.proofs.Calls.Kept.Branch.{branch-sound}

-- ---- FORMAT

-- Line 0 has no version.
empty-line : (l : ℕ) → l < 1 → LineSound no_model l
empty-line zero h = record {
  first = λ z. refl;
  source = λ o. absurd (omega arith);
  started = omega arith;
  published = omega arith;
  sourced = λ o. absurd (omega arith);
  some = λ v o h. absurd (omega arith);
  most = λ v o h. absurd (omega arith);
  number = λ v o h. absurd (omega arith);
  own = λ v o h. absurd (omega arith);
  shared = λ v o p h. absurd (omega arith);
  accepted = λ v h. absurd (omega arith);
  woven = λ v o h. absurd (omega arith);
}
empty-line (suc l) h = absurd (omega arith)

pub empty-sound : {A : Type 0} (L : Limits) → A → SoundGiven A L no_model
unfolding inside inside_some
empty-sound L a = record {
  allowed = a;
  records = omega arith;
  fewer = omega arith;
  page_room = rw pages-used-none (omega arith);
  node_room = rw nodes-used-none (omega arith);
  tickets = λ t o h. absurd (omega arith);
  updated = λ k o h. absurd (omega arith);
  begun = omega arith;
  few = omega arith;
  lines = empty-line;
  windows = λ k. refl;
}

-- ---- one call

pub either-keeps : {A : Type 0} (P : A → Type 0) (b : Bool) (x y : A) → P y → (b ≡ true → P x) → P (either b x y)
either-keeps P true x y p q = q refl
either-keeps P false x y p q = p

module _ {A : Type 0} (L : Limits) (m : Model) (S : SoundGiven A L m) where
  assign-step : (l t f : ℕ) → SoundGiven A L (on_line L m l (WRITE t f)).0
  unfolding on_line
  assign-step l t f = unless-keeps (SoundGiven A L) (assign_number L m l t f) m (assigned L m l t f) S (assign-sound L m l t f S)

  -- PUBLISH outside the windows.
  now-sound : (l : ℕ) → l < length m.lines → SoundGiven A L (either (due (history m l)) (published L m l) m)
  now-sound l there = either-keeps (SoundGiven A L) (due (history m l)) (published L m l) m S (publish-sound L m l there S)

  line-sound : (l : ℕ) (a : Act) → SoundGiven A L (on_line L m l a).0
  unfolding on_line
  line-sound l (WRITE t f) = assign-step l t f
  line-sound l (APPEND t) = assign-step l t (blob_size (history m l))
  line-sound l (PUBLISH minute) =
      let now = either (due (history m l)) (published L m l) m in
      unless-keeps
      (SoundGiven A L)
      (publish_number L m l minute)
      m
      (either (inside_some m.windows minute) m now)
      S
      (λ z. either-keeps (SoundGiven A L) (inside_some m.windows minute) m now (now-sound l (publish-passed L m l minute z).line) (λ e. S))
  line-sound l (BRANCH v) = unless-keeps (SoundGiven A L) (branch_number L m l v) m (branched L m l v) S (branch-sound L m l v S)
  line-sound l (ask q) = S

pub step-sound : {A : Type 0} (L : Limits) (m : Model) (c : Call) → SoundGiven A L m → SoundGiven A L (on_model L m c).0
unfolding on_model
step-sound {A = A} L m (BEGIN n) S = unless-keeps (SoundGiven A L) (begin_number L m n) m (begun L m n) S (begun-sound L m n S)
step-sound {A = A} L m (PUT t i bytes) S = unless-keeps (SoundGiven A L) (put_number L m t i bytes) m (filled_at L m t i bytes) S (put-sound L m t i bytes S)
step-sound {A = A} L m (WEAVE t) S = unless-keeps (SoundGiven A L) (weave_number L m t) m (woven L m t) S (weave-sound L m t S)
step-sound {A = A} L m (SETWINDOWS t) S = unless-keeps (SoundGiven A L) (text_number t) m (with_windows L m t) S (λ z. windows-sound L m t S)
step-sound L m (on l a) S = line-sound L m S l a

-- ---- a list of calls

pub run_sound : {A : Type 0} (L : Limits) (m : Model) (cs : List Call) → SoundGiven A L m → SoundGiven A L (run (on_model L) m cs)
run_sound {A = A} L m cs S = run-keeps (on_model L) (SoundGiven A L) (step-sound L) m cs S

-- The model after any list of calls from FORMAT, with what is known of its limits.
pub sound-after : {A : Type 0} (L : Limits) → A → (cs : List Call) → SoundGiven A L (model_after L cs)
sound-after L a cs = run_sound L no_model cs (empty-sound L a)
