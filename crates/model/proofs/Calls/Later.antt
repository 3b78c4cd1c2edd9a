-- Every later call, on any line, leaves what a line has: its versions up to the last assigned read the same, and what is published stays published.
-- Assumes nothing.
use mathlib.Core.Path.{◌≡◌}
use mathlib.Core.List.{List, [], ◌∷◌}
use Prim.Native.Nat.{ℕ, ◌≤◌, ◌<◌}
use native.Mathlib.Omega.{arith}
use lib.ListN.{length}
use Rattle.table.proofs.Table.{unless-keeps}
use Rattle.windows.specs.Windows.{inside_some}
use Rattle.windows.specs.Listed.{text_number}
use Rattle.model.specs.Calls.{Call, BEGIN, PUT, WEAVE, SETWINDOWS, on, Act, WRITE, APPEND, PUBLISH, BRANCH, ask, Query}
use Rattle.model.specs.History.{version_at, blob_size, due}
use Rattle.model.specs.InTurn.{blob_at, bytes_at}
use Rattle.model.specs.Model.{Limits, Model, line_at, history}
use Rattle.model.specs.OnModel.{either, begin_number, put_number, weave_number, assign_number, publish_number, branch_number, begun, filled_at, woven, with_windows, assigned, published, branched, on_line, on_model}
use Rattle.model.specs.Run.{run}
use Rattle.model.proofs.Model.Sound.{Sound}
use Rattle.model.proofs.Model.Passed.{put-passed, weave-passed, assign-passed, publish-passed}
use Rattle.model.proofs.Calls.Grows.{Grown, grown-same, grown-then}
use Rattle.model.proofs.Calls.Older.{older-same}
use Rattle.model.proofs.History.Stay.{SameUpTo, same-less, size-stays, blob-stays, bytes-stay}
use Rattle.model.proofs.Line.Asked.{Reads, query-alike}
use Rattle.model.proofs.Calls.Kept.Begin.{begun-grown}
use Rattle.model.proofs.Calls.Kept.Put.{filled-grown}
use Rattle.model.proofs.Calls.Kept.Weave.{woven-grown}
use Rattle.model.proofs.Calls.Kept.SetWindows.{windows-grown}
use Rattle.model.proofs.Calls.Kept.Assign.{assigned-grown}
use Rattle.model.proofs.Calls.Kept.Publish.{published-grown}
use Rattle.model.proofs.Calls.Kept.Branch.{branched-grown}
use Rattle.model.proofs.Calls.Kept.Every.{either-keeps, step-sound}

module _ (L : Limits) (m : Model) (S : Sound L m) where
  assign-grown : (l t f : ℕ) → Grown m (on_line L m l (WRITE t f)).0
  unfolding on_line
  assign-grown l t f =
      unless-keeps (Grown m) (assign_number L m l t f) m (assigned L m l t f) (grown-same m) (λ z. assigned-grown L m l t f (assign-passed L m l t f z).line)

  -- PUBLISH outside the windows.
  now-grown : (l : ℕ) → l < length m.lines → Grown m (either (due (history m l)) (published L m l) m)
  now-grown l there = either-keeps (Grown m) (due (history m l)) (published L m l) m (grown-same m) (λ e. published-grown L m l there)

  line-grown : (l : ℕ) (a : Act) → Grown m (on_line L m l a).0
  unfolding on_line
  line-grown l (WRITE t f) = assign-grown l t f
  line-grown l (APPEND t) = assign-grown l t (blob_size (history m l))
  line-grown l (PUBLISH minute) =
      let now = either (due (history m l)) (published L m l) m in
      unless-keeps
      (Grown m)
      (publish_number L m l minute)
      m
      (either (inside_some m.windows minute) m now)
      (grown-same m)
      (λ z. either-keeps (Grown m) (inside_some m.windows minute) m now (now-grown l (publish-passed L m l minute z).line) (λ e. grown-same m))
  line-grown l (BRANCH v) = unless-keeps (Grown m) (branch_number L m l v) m (branched L m l v) (grown-same m) (λ z. branched-grown L m l v)
  line-grown l (ask q) = grown-same m

  pub step-grown : (c : Call) → Grown m (on_model L m c).0
  unfolding on_model
  step-grown (BEGIN n) = unless-keeps (Grown m) (begin_number L m n) m (begun L m n) (grown-same m) (λ z. begun-grown L m n S)
  step-grown (PUT t i bytes) =
      unless-keeps (Grown m) (put_number L m t i bytes) m (filled_at L m t i bytes) (grown-same m) (λ z. filled-grown L m t i bytes S (put-passed L m t i bytes z))
  step-grown (WEAVE t) = unless-keeps (Grown m) (weave_number L m t) m (woven L m t) (grown-same m) (λ z. woven-grown L m t S (weave-passed L m t z))
  step-grown (SETWINDOWS t) = unless-keeps (Grown m) (text_number t) m (with_windows L m t) (grown-same m) (λ z. windows-grown L m t)
  step-grown (on l a) = line-grown l a

pub run-grown : (L : Limits) (m : Model) → Sound L m → (cs : List Call) → Grown m (run (on_model L) m cs)
unfolding run
run-grown L m S [] = grown-same m
run-grown L m S (c ∷ cs) =
    let m' = (on_model L m c).0 in
    grown-then m m' (run (on_model L) m' cs) (step-grown L m S c) (run-grown L m' (step-sound L m c S) cs)

-- ---- what a line has, after any list of calls

module _ (L : Limits) (m : Model) (S : Sound L m) (cs : List Call) (l : ℕ) (there : l < length m.lines) where
  pub later-line : l < length (run (on_model L) m cs).lines
  later-line = omega (arith, (run-grown L m S cs).lines)

  pub later-published : (line_at m l).published ≤ (line_at (run (on_model L) m cs) l).published
  later-published = ((run-grown L m S cs).line l there).further

  pub later_same : SameUpTo (history (run (on_model L) m cs) l) (history m l) (length (line_at m l).shown)
  later_same = older-same L m (run (on_model L) m cs) S (run-grown L m S cs) l there

  -- What is published stays: the size, the pages, the bytes.
  module _ (v : ℕ) (h : v ≤ (line_at m l).published) where
    later-there : v ≤ (line_at (run (on_model L) m cs) l).published
    later-there = omega (arith, later-published)

    pub later-upto : SameUpTo (history (run (on_model L) m cs) l) (history m l) v
    later-upto =
        same-less (history (run (on_model L) m cs) l) (history m l) (length (line_at m l).shown) v (omega (arith, (S.lines l there).published)) later_same

    pub later-size : (version_at (history (run (on_model L) m cs) l) v).size ≡ (version_at (history m l) v).size
    later-size = size-stays (history (run (on_model L) m cs) l) (history m l) v later-upto v (omega arith)

    pub later-blob : blob_at (history (run (on_model L) m cs) l) v ≡ blob_at (history m l) v
    later-blob = blob-stays (history (run (on_model L) m cs) l) (history m l) v later-upto v (omega arith)

    pub later-bytes : bytes_at (history (run (on_model L) m cs) l) v ≡ bytes_at (history m l) v
    later-bytes = bytes-stay (history (run (on_model L) m cs) l) (history m l) v later-upto v (omega arith)

    -- So what the queries that read it give back stays.
    pub later-query : (q : Query) → Reads v q → (on_model L (run (on_model L) m cs) (on l (ask q))).1 ≡ (on_model L m (on l (ask q))).1
    later-query = query-alike L m (run (on_model L) m cs) l l v there later-line h later-there later-upto
