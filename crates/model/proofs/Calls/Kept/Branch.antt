-- BRANCH keeps the model sound: one more line, which shows what its source does up to the version that it begins from.
-- Assumes nothing.
use mathlib.Core.Path.{◌≡◌, refl, ap, sym, ◌∙◌}
use mathlib.Core.Logic.{inl, inr}
use Prim.Native.Nat.{ℕ, suc, ◌≤◌, ◌<◌}
use native.Mathlib.Omega.{arith}
use lib.ListN.{length, take, length-take}
use Rattle.tree.specs.Tree.{nth, update, size_at}
use Rattle.tree.proofs.Meets.{lt-or-le}
use Rattle.model.specs.History.{to_update, updates}
use Rattle.model.specs.Model.{Limits, Line, Model, line_from, line_at, update_at, history}
use Rattle.model.specs.OnModel.{branch_number, branched}
use Rattle.model.proofs.Model.Sound.{SoundGiven, LineSound}
use Rattle.model.proofs.Model.Passed.{BranchPassed, branch-passed}
use Rattle.model.proofs.Lists.Nth.{length-snoc, nth-take}
use Rattle.model.proofs.History.Updates.{accepted-same}
use Rattle.model.proofs.Model.Shown.{shown_at, Whole, update-shown, size-shown, complete-whole, whole-complete}
use Rattle.model.proofs.Calls.Grows.{Grown, line-unmoved}
use Rattle.model.proofs.Calls.Lines.{line-old, line-new}
use Rattle.model.proofs.Area.LayoutLaws.{nodes-used-kept, pages-used-kept}
use Rattle.model.proofs.Calls.Kept.Same.{ticket-same, update-kept, line_same}

module _ (L : Limits) (m : Model) (l v : ℕ) where
  abbrev pub new_line : Line
  new_line = line_from l v (take v (line_at m l).shown)

  pub branched-length : length (branched L m l v).lines ≡ suc (length m.lines)
  branched-length = length-snoc m.lines new_line

  pub branched-old : (k : ℕ) → k < length m.lines → line_at (branched L m l v) k ≡ line_at m k
  branched-old k h = line-old m.lines new_line k h

  pub branched-new : line_at (branched L m l v) (length m.lines) ≡ new_line
  branched-new = line-new m.lines new_line

  pub branched-grown : Grown m (branched L m l v)
  branched-grown = record {
    tickets = omega arith;
    updates = omega arith;
    lines = omega (arith, branched-length);
    version = λ k h. refl;
    got = λ t o. refl;
    slots = λ k o h. refl;
    pages = λ t h. refl;
    whole = λ k o h w. refl;
    line = λ k h. line-unmoved (line_at m k) (line_at (branched L m l v) k) (branched-old k h);
  }

  -- The new line shows what its source does, up to v.
  pub branched-shown : (w : ℕ) → w ≤ v → shown_at (branched L m l v) (length m.lines) w ≡ shown_at m l w
  branched-shown w h = rw branched-new (nth-take 0 v (line_at m l).shown w h)

  pub branched-update : (w : ℕ) → w ≤ v → update (updates (history (branched L m l v) (length m.lines))) w ≡ update (updates (history m l)) w
  branched-update w h =
      update-shown (branched L m l v) (length m.lines) w
      ∙ ap (λ (k : ℕ). to_update m.tickets (update_at m k)) (branched-shown w h)
      ∙ sym (update-shown m l w)

  pub branched-size : (w : ℕ) → w ≤ v → size_at (updates (history (branched L m l v) (length m.lines))) w ≡ size_at (updates (history m l)) w
  branched-size w h =
      size-shown (branched L m l v) (length m.lines) w
      ∙ ap (λ (k : ℕ). (update_at m k).size) (branched-shown w h)
      ∙ sym (size-shown m l w)

  module _ {A : Type 0} (S : SoundGiven A L m) where
    module _ (p : BranchPassed m l v) where
      x : LineSound m l
      x = S.lines l p.line

      pub branched-versions : length (line_at (branched L m l v) (length m.lines)).shown ≡ v
      branched-versions = rw (branched-new, length-take) (omega (arith, x.published, p.published))

      new-line : LineSound (branched L m l v) (length m.lines)
      new-line =
          let n = branched-versions in
          record {
            first = λ z. absurd (omega (arith, S.begun));
            source = λ o. rw branched-new p.line;
            started = rw branched-new (omega arith);
            published = rw (n, branched-new) (omega arith);
            sourced = λ o. rw (branched-new, branched-old l p.line) p.published;
            some = λ w o h. rw (branched-shown w (omega arith)) (x.some w o (omega (arith, x.published, p.published)));
            most = λ w o h. rw (branched-shown w (omega arith)) (x.most w o (omega (arith, x.published, p.published)));
            number = λ w o h. rw (branched-shown w (omega arith)) (x.number w o (omega (arith, x.published, p.published)));
            own = λ w o h. absurd (omega (arith, ap (λ (y : Line). y.start) branched-new));
            shared = λ w o q h. shared_new w (rw branched-new at h);
            accepted = λ w h.
                accepted-same
                (updates (history m l))
                (updates (history (branched L m l v) (length m.lines)))
                w
                (branched-update (suc w) (omega arith))
                (branched-size w (omega arith))
                (x.accepted w (omega (arith, x.published, p.published)));
            woven = λ w o h. whole-complete (branched L m l v) (length m.lines) w (whole-new w o (rw branched-new at h));
          }
        where
          shared_new : (w : ℕ) → w ≤ v
              → shown_at (branched L m l v) (length m.lines) w ≡ shown_at (branched L m l v) (line_at (branched L m l v) (length m.lines)).source w
          shared_new w h =
              branched-shown w h
              ∙ sym (ap (λ (y : Line). shown_at (branched L m l v) y.source w) branched-new ∙ ap (λ (y : Line). nth 0 y.shown w) (branched-old l p.line))

          whole-new : (w : ℕ) → 0 < w → w ≤ v → Whole (branched L m l v) (shown_at (branched L m l v) (length m.lines) w)
          whole-new w o h = rw (branched-shown w h) (complete-whole m l w (x.woven w o (omega (arith, p.published))))

      branched-lines : (k : ℕ) → k < length (branched L m l v).lines → LineSound (branched L m l v) k
      branched-lines k h = elim (lt-or-le k (length m.lines)) [
        | inl q ↦ line_same L m (branched L m l v) S branched-grown k q (branched-old k q)
        | inr q ↦ let e : k ≡ length m.lines = omega (arith, branched-length) in rw e new-line
      ]

      pub branched-passed : SoundGiven A L (branched L m l v)
      branched-passed = record {
        allowed = S.allowed;
        records = S.records;
        fewer = S.fewer;
        page_room = rw (pages-used-kept m (branched L m l v) branched-grown refl) S.page_room;
        node_room = rw (nodes-used-kept m (branched L m l v) branched-grown refl) S.node_room;
        tickets = λ t o h. ticket-same L m (branched L m l v) t refl (λ z. z) (S.tickets t o h);
        updated = λ k o h. update-kept L m (branched L m l v) S branched-grown k o h (S.updated k o h).woven;
        begun = omega (arith, branched-length);
        few = omega (arith, branched-length, p.line-left);
        lines = branched-lines;
        windows = S.windows;
      }

    pub branch-sound : branch_number L m l v ≡ 0 → SoundGiven A L (branched L m l v)
    branch-sound z = branched-passed (branch-passed L m l v z)
