-- PUBLISH keeps the model sound: one more version of a line, a complete one, is published.
-- Assumes nothing.
use mathlib.Core.Path.{◌≡◌, refl}
use mathlib.Core.Bool.{true}
use Prim.Native.Nat.{ℕ, suc, ◌≤◌, ◌<◌}
use native.Mathlib.Decide.{ℕ_discrete}
use native.Mathlib.Omega.{arith}
use lib.ListN.{length, length-set}
use Rattle.model.specs.History.{due}
use Rattle.model.specs.Model.{Limits, Line, Model, with_published, line_at, history}
use Rattle.model.specs.OnModel.{published}
use Rattle.model.proofs.Model.Sound.{SoundGiven, LineSound}
use Rattle.model.proofs.Model.Passed.{Due, due-passed}
use Rattle.model.proofs.Model.Shown.{shown_at, Whole, versions-length, complete-whole}
use Rattle.model.proofs.Calls.Grows.{LineGrown, Grown}
use Rattle.model.proofs.Calls.Lines.{line-this, line_other, line_set}
use Rattle.model.proofs.Area.LayoutLaws.{nodes-used-kept, pages-used-kept}
use Rattle.model.proofs.Calls.Kept.Same.{ticket-same, update-kept, line_kept, line_same}

module _ (L : Limits) (m : Model) (l : ℕ) (there : l < length m.lines) where
  abbrev pub published_line : Line
  published_line = let x = line_at m l in with_published x (suc x.published)

  pub published-this : line_at (published L m l) l ≡ published_line
  published-this = line-this m.lines l published_line there

  pub published-other : (k : ℕ) → (k ≡ l → ⊥) → line_at (published L m l) k ≡ line_at m k
  published-other k n = line_other m.lines l published_line there k n

  pub published-lines : length (published L m l).lines ≡ length m.lines
  published-lines = length-set m.lines l published_line

  pub published-line : LineGrown (line_at m l) published_line
  published-line = record { source = refl; start = refl; longer = omega arith; shown = λ v h. refl; further = omega arith }

  pub published-grown : Grown m (published L m l)
  published-grown = record {
    tickets = omega arith;
    updates = omega arith;
    lines = omega (arith, published-lines);
    version = λ k h. refl;
    got = λ t o. refl;
    slots = λ k o h. refl;
    pages = λ t h. refl;
    whole = λ k o h w. refl;
    line = λ k h. line_set m.lines l published_line there published-line k;
  }

  module _ {A : Type 0} (S : SoundGiven A L m) where
    module _ (d : Due (history m l)) where
      this-shown : length (line_at (published L m l) l).shown ≡ length (line_at m l).shown
      this-shown = rw published-this

      this-published : (line_at (published L m l) l).published ≡ suc (line_at m l).published
      this-published = rw published-this

      -- The version that is published is complete.
      now : (v : ℕ) → (line_at m l).published < v → v ≤ (line_at (published L m l) l).published → Whole (published L m l) (shown_at (published L m l) l v)
      now v a b =
          let e : v ≡ suc (line_at m l).published = omega (arith, this-published) in
          rw (published-this, e) (complete-whole m l (suc (line_at m l).published) d.whole)

      published-lines-sound : (k : ℕ) → k < length m.lines → LineSound (published L m l) k
      published-lines-sound k h = elim (ℕ_discrete k l) [
        | yes e ↦
            let room : (line_at (published L m l) l).published ≤ length (line_at (published L m l) l).shown =
            omega (arith, this-shown, this-published, d.left, versions-length m l) in
            rw e (line_kept L m (published L m l) S published-grown l there (λ v a b. absurd (omega (arith, this-shown))) room now)
        | no n ↦ line_same L m (published L m l) S published-grown k h (published-other k n)
      ]

      pub published-passed : SoundGiven A L (published L m l)
      published-passed = record {
        allowed = S.allowed;
        records = S.records;
        fewer = S.fewer;
        page_room = rw (pages-used-kept m (published L m l) published-grown refl) S.page_room;
        node_room = rw (nodes-used-kept m (published L m l) published-grown refl) S.node_room;
        tickets = λ t o h. ticket-same L m (published L m l) t refl (λ z. z) (S.tickets t o h);
        updated = λ k o h. update-kept L m (published L m l) S published-grown k o h (S.updated k o h).woven;
        begun = rw published-lines S.begun;
        few = rw published-lines S.few;
        lines = λ k h. published-lines-sound k (rw published-lines at h);
        windows = S.windows;
      }

    pub publish-sound : due (history m l) ≡ true → SoundGiven A L (published L m l)
    publish-sound e = published-passed (due-passed (history m l) e)
