-- STAMP on a model's image: the number and the version are the model's.
-- Assumes nothing.
use mathlib.Core.Path.{◌≡◌, ap, ◌∙◌}
use Prim.Native.Nat.{ℕ}
use native.Mathlib.Omega.{arith}
use borrow.Author.Tests.{lt-ltb}
use lib.ListN.{length}
use Rattle.tree.specs.Walk.{leaf_version}
use Rattle.table.specs.Table.{◌or◌, test, always, page_rows}
use Rattle.versions.specs.Store.{number_on, part_on}
use Rattle.versions.specs.Size.{is_there, not_there, pages_in}
use Rattle.walk.specs.FindPage.{find_page, number_within, page_number_of, is_lost}
use Rattle.stamp.specs.Stamp.{stamp_number, stamp_by, stamped}
use Rattle.model.specs.Calls.{stamp, stamp_is, answers}
use Rattle.model.specs.History.{version_at, updates}
use Rattle.model.specs.Stamp.{stamp_at}
use Rattle.model.specs.Model.{Limits, Model, line_at, history}
use Rattle.model.specs.Layout.{leaf_number}
use Rattle.model.specs.OnModel.{model_outcome, page_number}
use Rattle.model.proofs.Model.Sound.{Sound}
use Rattle.model.proofs.History.SoundHistory.{line-history}
use Rattle.model.proofs.Model.Shown.{versions-length}
use Rattle.model.proofs.History.Blob.{leaf-bounds}
use Rattle.model.proofs.Area.Found.{number-within}
use Rattle.model.proofs.Line.Numbers.{number-version}
use Rattle.model.proofs.Model.Passed.{PagePassed, page-passed}
use Rattle.model.proofs.Area.Woven.{published-upto}
use Rattle.demands.specs.Answers.{stamped_answer}
use Rattle.demands.specs.Run.{store_outcome}
use Rattle.demands.proofs.Image.{store_image, areas_image, image}
use Rattle.demands.proofs.Lines.{lines-in, line-in, number-on}
use Rattle.demands.proofs.Readings.{answers-same, stamped-reads}
use Rattle.demands.proofs.Steps.Numbers.{page-alike, image-number}
use Rattle.demands.proofs.Steps.Found.{find-page, page-number}
use Rattle.demands.proofs.Steps.Since.{since-leaf}
use Rattle.demands.proofs.Steps.Size.{name-there, pages-in}

-- ---- the number

module _ (L : Limits) (m : Model) (S : Sound L m) (l v p : ℕ) where
  pub stamp-number : stamp_number (store_image L m) (areas_image L m) l v p ≡ page_number L m l v p
  unfolding stamp_number
  stamp-number =
      let s = store_image L m in
      let a = areas_image L m in
      let q = part_on s a l v in
      let c = number_on s l v in
      rw (lines-in L m S, line-in L m S l)
      (image-number L m S
      (page_rows (is_there q c) l (length m.lines) v (line_at m l).published (pages_in s a l v) p)
      (page_rows always l (length m.lines) v (line_at m l).published (version_at (history m l) v).size p)
      (not_there q c or test (is_lost (page_number_of L.pages a c p)))
      (page-alike q.name c l (length m.lines) v (line_at m l).published (pages_in s a l v) (version_at (history m l) v).size p (λ there h.
      let w = published-upto L m S l there v h in
      (name-there L m S l there v w, pages-in L m S l there v w)))
      (λ z.
      let g = page-passed L m l v p z in
      let w = published-upto L m S l g.line v g.published in
      (name-there L m S l g.line v w, rw (number-on L m S l g.line v w, page-number L m S l g.line v p g.published g.inside))))

-- ---- the answers

stamp-says : (k n w : ℕ) → (k ≡ 0 → n ≡ w) → stamped_answer (stamped k n) ≡ answers k (stamp_is w)
stamp-says k n w e = stamped-reads k n ∙ answers-same k (stamp_is n) (stamp_is w) (λ z. ap stamp_is (e z))

module _ (L : Limits) (m : Model) (S : Sound L m) (l v p : ℕ) where
  -- From the leaf that the walk ends at the way down comes to the stamp that the model has.
  stamp-found : PagePassed m l v p → stamp_by (store_image L m) (areas_image L m) l p (find_page (areas_image L m) (number_on (store_image L m) l v) p) ≡ stamp_at (history m l) v p
  stamp-found g =
      let x = leaf_version (updates (history m l)) v p in
      let w = published-upto L m S l g.line v g.published in
      let b = leaf-bounds L (history m l) (line-history L m S l g.line) v p (omega (arith, versions-length m l)) g.inside in
      rw (
        number-on L m S l g.line v w,
        find-page L m S l g.line v p g.published g.inside,
        number-version L m S l x g.line b.above (omega arith),
        lt-ltb (leaf_number m l x p) L.pages (number-within L m S l g.line v p w g.inside),
        number_within,
      )
      (since-leaf L m S l g.line p v g.published g.inside)

  pub stamp-outcome : store_outcome (image L m) l (stamp v p) ≡ model_outcome L m l (stamp v p)
  unfolding store_outcome model_outcome
  stamp-outcome =
      rw (
        stamp-number L m S l v p,
        stamp-says (page_number L m l v p) (stamp_by (store_image L m) (areas_image L m) l p (find_page (areas_image L m) (number_on (store_image L m) l v) p)) (stamp_at (history m l) v p)
            (λ z. stamp-found (page-passed L m l v p z)),
      )
