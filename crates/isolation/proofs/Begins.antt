-- A line that begins shows its source's first versions, all of them shared and complete: lines that begin from the same versions match.
-- Assumes nothing.
use mathlib.Core.Path.{◌≡◌, refl, sym, ap, ◌∙◌}
use mathlib.Core.Logic.{inl, inr}
use mathlib.Core.List.{List}
use Prim.Native.Nat.{ℕ, zero, suc, ◌≤◌}
use native.Mathlib.Omega.{arith}
use lib.ListN.{length, take, length-take}
use Rattle.tree.specs.Tree.{nth, count_of}
use Rattle.tree.proofs.Meets.{lt-or-le}
use Rattle.table.proofs.Table.{unless-0}
use Rattle.model.specs.Calls.{on, BRANCH, line_is, says}
use Rattle.model.specs.History.{Version, History, no_version, ticket_at, version_at}
use Rattle.model.specs.Model.{Limits, Model, history}
use Rattle.model.specs.OnModel.{branch_number, branched, on_line, on_model}
use Rattle.model.proofs.Lists.Nth.{nth-take, nth_past}
use Rattle.model.proofs.History.Updates.{update-at}
use Rattle.model.proofs.Model.Shown.{versions-length, complete-count}
use Rattle.model.proofs.Model.Facts.{update-got}
use Rattle.model.proofs.Model.Passed.{BranchPassed, branch-passed, line-answered}
use Rattle.model.proofs.Calls.Histories.{first_of, branched-history}
use Rattle.isolation.specs.Isolation.{own_number, Written, written_at, woven_at, Matched, SameUpTo, SameLine, Match}
use Rattle.isolation.proofs.Kept.{Kept}
use Rattle.isolation.proofs.Tickets.{Where, nowhere, mine, away, where-is, own-nowhere, own-away}
use Rattle.isolation.proofs.Match.{line-by, line-between}
use Rattle.isolation.proofs.Alike.{shape}

-- The first v versions of two histories, and none after them.
module _ (h h' : History) (v : ℕ) where
  -- A field that agrees up to v.
  first-same : {B : Type 0} (g g' : Version → B) → ((w : ℕ) → w ≤ v → g (version_at h w) ≡ g' (version_at h' w)) → (w : ℕ)
      → g (version_at (first_of h v) w) ≡ g' (version_at (first_of h' v) w)
  first-same g g' same w = elim (lt-or-le v w) [
    | inl q ↦
        ap g (nth_past no_version (take v h.versions) w (rw length-take (omega arith))) ∙ same 0 (omega arith)
        ∙ sym (ap g' (nth_past no_version (take v h'.versions) w (rw length-take (omega arith))))
    | inr q ↦ ap g (nth-take no_version v h.versions w q) ∙ same w q ∙ sym (ap g' (nth-take no_version v h'.versions w q))
  ]

  first-versions : v ≤ length h.versions → v ≤ length h'.versions → SameUpTo v h h' → ((w : ℕ) → w ≤ v → woven_at h w ≡ woven_at h' w) → SameLine (first_of h v) (first_of h' v)
  first-versions n n' same woven = record {
    count = all-taken h n ∙ sym (all-taken h' n');
    versions = first-same (λ (x : Version). record { f = x.f; size = x.size; slots = (ticket_at h x.ticket).slots })
        (λ (x : Version). record { f = x.f; size = x.size; slots = (ticket_at h' x.ticket).slots }) same;
    woven = first-same (λ (x : Version). (ticket_at h x.ticket).woven) (λ (x : Version). (ticket_at h' x.ticket).woven) woven;
    published = refl;
  }
    where
      all-taken : (h : History) → v ≤ length h.versions → length (take v h.versions) ≡ v
      all-taken h n = rw length-take (omega arith)

module _ {L : Limits} {m : Model} (S : Kept L m) where
  -- No ticket got a version on a line that is yet to begin.
  none-own : (u : ℕ) → own_number (length m.lines) m u ≡ 0
  none-own u = go (where-is (length m.lines) m u)
    where
      go : Where (length m.lines) m u → own_number (length m.lines) m u ≡ 0
      go (nowhere e) = own-nowhere (length m.lines) m u e
      go (mine o e) = absurd (omega (arith, (update-got L m S u o).line))
      go (away o n) = own-away (length m.lines) m u o n

  module _ (l v : ℕ) (p : BranchPassed m l v) where
    -- What is published is woven as far as it goes.
    woven-whole : (w : ℕ) → suc w ≤ v → woven_at (history m l) (suc w) ≡ count_of (shape (written_at (history m l) (suc w)))
    woven-whole w q =
        complete-count (history m l) (suc w) ((S.lines l p.line).woven (suc w) (omega arith) (omega (arith, p.published)))
        ∙ ap count_of (update-at (history m l) (suc w))

    enough : v ≤ length (history m l).versions
    enough = omega (arith, versions-length m l, p.published, (S.lines l p.line).published)

module _ (L : Limits) (l l' : ℕ) {ts ts' : List ℕ} {m m' : Model} (S : Kept L m) (S' : Kept L m') (T : Matched ts ts' m.tickets m'.tickets) (ws : m.windows ≡ m'.windows) (v : ℕ)
    (same : SameUpTo v (history m l) (history m' l')) where
  match-new : BranchPassed m l v → BranchPassed m' l' v → Match (length m.lines) (length m'.lines) ts ts' (branched L m l v) (branched L m' l' v)
  match-new p p' = record {
    matched = T;
    own = λ k. none-own S (nth 0 ts k) ∙ sym (none-own S' (nth 0 ts' k));
    lines = λ _ _. line-between (line-by (branched-history L m l v)) (line-by (branched-history L m' l' v))
        (first-versions (history m l) (history m' l') v (enough S l v p) (enough S' l' v p') same woven);
    windows = ws;
  }
    where
      woven : (w : ℕ) → w ≤ v → woven_at (history m l) w ≡ woven_at (history m' l') w
      woven zero q = refl
      woven (suc w) q = woven-whole S l v p w q ∙ ap (λ (x : Written). count_of (shape x)) (same (suc w) q) ∙ sym (woven-whole S' l' v p' w q)

  -- Where BRANCH answers a line, that line has begun.
  pub match-branch : (k k' : ℕ) → (on_model L m (on l (BRANCH v))).1 ≡ says (line_is k) → (on_model L m' (on l' (BRANCH v))).1 ≡ says (line_is k')
      → Match k k' ts ts' (on_model L m (on l (BRANCH v))).0 (on_model L m' (on l' (BRANCH v))).0
  unfolding on_model on_line
  match-branch k k' e e' =
      let q = line-answered (branch_number L m l v) (length m.lines) k e in
      let q' = line-answered (branch_number L m' l' v) (length m'.lines) k' e' in
      rw (unless-0 (branch_number L m l v) m (branched L m l v) q.0, unless-0 (branch_number L m' l' v) m' (branched L m' l' v) q'.0, ← q.1, ← q'.1)
      (match-new (branch-passed L m l v q.0) (branch-passed L m' l' v q'.0))
