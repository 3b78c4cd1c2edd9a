-- A line reads as its source up to the version that it begins from: when it begins, and ever after.
-- Assumes nothing.
use mathlib.Core.Path.{◌≡◌, refl, ap, sym, ◌∙◌}
use Prim.Native.Nat.{ℕ, zero, suc, ◌≤◌, ◌<◌}
use native.Mathlib.Omega.{arith}
use lib.ListN.{length}
use Rattle.model.specs.History.{History, version_at}
use Rattle.model.specs.Model.{Limits, Model, line_at, update_at, history}
use Rattle.model.specs.OnModel.{branched}
use Rattle.model.proofs.Model.Sound.{Sound}
use Rattle.model.proofs.Model.Shown.{shown_at, version-shown}
use Rattle.model.proofs.History.Stay.{SameUpTo}
use Rattle.model.proofs.Calls.Kept.Branch.{branched-shown}

-- Two lines, of one model or of two with the same tickets, that have the same versions up to k.
pub same_versions : (h w : History) (k : ℕ) → h.tickets ≡ w.tickets → ((v : ℕ) → v ≤ k → version_at h v ≡ version_at w v) → SameUpTo h w k
same_versions h w k e s = record {
  versions = s;
  slots = λ v p. rw e;
  serials = λ v a o p. rw (e, s v p);
}

-- The line that BRANCH adds.
pub branch-reads : (L : Limits) (m : Model) (l v : ℕ) → SameUpTo (history (branched L m l v) (length m.lines)) (history m l) v
branch-reads L m l v = same_versions (history (branched L m l v) (length m.lines)) (history m l) v refl (λ w h.
    version-shown (branched L m l v) (length m.lines) w ∙ ap (update_at m) (branched-shown L m l v w h) ∙ sym (version-shown m l w))

-- Every line of a sound model.
pub source-reads : (L : Limits) (m : Model) → Sound L m → (l : ℕ) → 0 < l → l < length m.lines
    → SameUpTo (history m l) (history m (line_at m l).source) (line_at m l).start
source-reads L m S l o there = same_versions (history m l) (history m (line_at m l).source) (line_at m l).start refl (λ v h.
    version-shown m l v ∙ ap (update_at m) (shown v h) ∙ sym (version-shown m (line_at m l).source v))
  where
    shown : (v : ℕ) → v ≤ (line_at m l).start → shown_at m l v ≡ shown_at m (line_at m l).source v
    shown zero h = refl
    shown (suc v) h = (S.lines l there).shared (suc v) o (omega arith) h
