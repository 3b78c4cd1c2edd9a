-- What an answered STAMP says of VIEW: from the stamp's version on VIEW hands out the same page, and of the version before it another one, or none.
-- Assumes nothing.
use mathlib.Core.Path.{◌≡◌, ap, sym, ◌∙◌}
use mathlib.Core.Logic.{inl, inr}
use mathlib.Core.Bool.{false≢true}
use mathlib.Core.List.{[]}
use Prim.Native.Nat.{ℕ, suc, ◌≤◌, ◌<◌}
use native.Mathlib.Omega.{arith}
use lib.ListN.{length, get_or, get_or-eq_default}
use Rattle.tree.proofs.Meets.{lt-or-le}
use Rattle.model.specs.Calls.{on, STAMP, VIEW, stamp_is, part_is, says}
use Rattle.model.specs.History.{Page, version_at}
use Rattle.model.specs.InTurn.{blob_at}
use Rattle.model.specs.Stamp.{stamp_at, LowestSame}
use Rattle.model.specs.Model.{Limits, Model, line_at, history}
use Rattle.model.specs.OnModel.{on_model}
use Rattle.model.proofs.Model.Sound.{Sound}
use Rattle.model.proofs.History.SoundHistory.{line-history}
use Rattle.model.proofs.Model.Shown.{versions-length}
use Rattle.model.proofs.History.Blob.{blob-length, page-some}
use Rattle.model.proofs.History.Stamps.{stays_by, stamp-before, stamp-lowest}
use Rattle.model.proofs.Model.Passed.{PagePassed}
use Rattle.model.proofs.Line.Asked.{view-accepted, view-refused, stamp-passed}

-- The parts of two answers.
part-is : (x y : Page) → says (part_is x) ≡ says (part_is y) → x ≡ y
part-is x y e = let q : part_is x ≡ part_is y = ap (λ o. o.answer) e in cc

module _ (L : Limits) (m : Model) (S : Sound L m) (l : ℕ) (there : l < length m.lines) where
  module _ (v : ℕ) (q : v ≤ (line_at m l).published) where
    shown : v ≤ length (history m l).versions
    shown = omega (arith, versions-length m l, (S.lines l there).published)

    pub line-blob-length : length (blob_at (history m l) v) ≡ (version_at (history m l) v).size
    line-blob-length = blob-length L (history m l) (line-history L m S l there) v shown

    -- VIEW of a published version, also past its end.
    pub view-published : (p : ℕ) → (on_model L m (on l (VIEW v p))).1 ≡ says (part_is (get_or (blob_at (history m l) v) p []))
    view-published p = elim (lt-or-le p (version_at (history m l) v).size) [
      | inl i ↦ view-accepted L m l there v q p i
      | inr o ↦ view-refused L m l there v q p o
          ∙ ap (λ (x : Page). says (part_is x)) (sym (get_or-eq_default (blob_at (history m l) v) [] {n = p} (omega (arith, line-blob-length))))
    ]

    pub stamp-published : (p : ℕ) → p < (version_at (history m l) v).size → LowestSame (history m l) (stamp_at (history m l) v p) v p
    stamp-published p i = stamp-lowest (history m l) v p (omega (arith, line-blob-length))

-- STAMP v of page p answers w.
module _ (L : Limits) (m : Model) (S : Sound L m) (l v p w : ℕ) (e : (on_model L m (on l (STAMP v p))).1 ≡ says (stamp_is w)) where
  there : PagePassed m l v p
  there = (stamp-passed L m l v p w e).0

  is : stamp_at (history m l) v p ≡ w
  is = (stamp-passed L m l v p w e).1

  lowest : LowestSame (history m l) w v p
  lowest = rw is at (stamp-published L m S l there.line v there.published p there.inside)

  view-at : (u : ℕ) → u ≤ v → (on_model L m (on l (VIEW u p))).1 ≡ says (part_is (get_or (blob_at (history m l) u) p []))
  view-at u q = view-published L m S l there.line u (omega (arith, there.published)) p

  pub stamp-below : w ≤ v
  stamp-below = lowest.from.upto

  pub view-since : (u : ℕ) → w ≤ u → u ≤ v → (on_model L m (on l (VIEW u p))).1 ≡ (on_model L m (on l (VIEW v p))).1
  view-since u a b = view-at u b ∙ ap (λ (x : Page). says (part_is x)) (lowest.from.alike u a b) ∙ sym (view-at v (omega arith))

  pub view-before : (u : ℕ) → w ≡ suc u → (on_model L m (on l (VIEW u p))).1 ≡ (on_model L m (on l (VIEW v p))).1 → ⊥
  view-before u z s =
      let h = history m l in
      let le = stamp-below in
      let b = part-is _ _ (sym (view-at u (omega arith)) ∙ s ∙ view-at v (omega arith)) in
      elim (lt-or-le p (length (blob_at h u))) [
        | inl i ↦
            false≢true (sym (stamp-before h v p u (is ∙ z)) ∙ stays_by h u p i (b ∙ sym (lowest.from.alike (suc u) (omega arith) (omega arith))))
        | inr o ↦
            page-some L h (line-history L m S l there.line) v p (shown L m S l there.line v there.published) there.inside
            (sym b ∙ get_or-eq_default (blob_at h u) [] {n = p} o)
      ]

-- Two versions with one stamp have one page.
pub view-stamped : (L : Limits) (m : Model) → Sound L m → (l u v p w : ℕ) → (on_model L m (on l (STAMP u p))).1 ≡ says (stamp_is w) → (on_model L m (on l (STAMP v p))).1 ≡ says (stamp_is w)
    → (on_model L m (on l (VIEW u p))).1 ≡ (on_model L m (on l (VIEW v p))).1
view-stamped L m S l u v p w a b = elim (lt-or-le u v) [
  | inl r ↦ view-since L m S l v p w b u (stamp-below L m S l u p w a) (omega arith)
  | inr r ↦ sym (view-since L m S l u p w a v (stamp-below L m S l v p w b) r)
]
