-- SETWINDOWS keeps the model sound: it changes the windows alone, and none of a text's has equal ends.
-- Assumes nothing.
use mathlib.Core.Path.{refl}
use mathlib.Core.List.{List}
use Prim.Native.Nat.{ℕ}
use native.Mathlib.Omega.{arith}
use Rattle.windows.proofs.Used.{inside-means}
use Rattle.model.specs.Model.{Limits, Model, line_at}
use Rattle.model.specs.OnModel.{with_windows}
use Rattle.model.proofs.Model.Sound.{SoundGiven}
use Rattle.model.proofs.Calls.Grows.{Grown, line-unmoved}
use Rattle.model.proofs.Area.LayoutLaws.{nodes-used-kept, pages-used-kept}
use Rattle.model.proofs.Calls.Kept.Same.{ticket-same, update-kept, line_same}

module _ (L : Limits) (m : Model) (text : List ℕ) where
  pub windows-grown : Grown m (with_windows L m text)
  windows-grown = record {
    tickets = omega arith;
    updates = omega arith;
    lines = omega arith;
    version = λ k h. refl;
    got = λ t o. refl;
    slots = λ k o h. refl;
    pages = λ t h. refl;
    whole = λ k o h w. refl;
    line = λ l h. line-unmoved (line_at m l) (line_at m l) refl;
  }

  pub windows-sound : {A : Type 0} → SoundGiven A L m → SoundGiven A L (with_windows L m text)
  windows-sound S = record {
    allowed = S.allowed;
    records = S.records;
    fewer = S.fewer;
    page_room = rw (pages-used-kept m (with_windows L m text) windows-grown refl) S.page_room;
    node_room = rw (nodes-used-kept m (with_windows L m text) windows-grown refl) S.node_room;
    tickets = λ t o h. ticket-same L m (with_windows L m text) t refl (λ z. z) (S.tickets t o h);
    updated = λ k o h. update-kept L m (with_windows L m text) S windows-grown k o h (S.updated k o h).woven;
    begun = S.begun;
    few = S.few;
    lines = λ l h. line_same L m (with_windows L m text) S windows-grown l h refl;
    windows = inside-means text;
  }
