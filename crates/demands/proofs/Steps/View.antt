-- VIEW on a model's image: the bytes are the model's. It refuses as STAMP does.
-- Assumes nothing.
use mathlib.Core.Path.{◌≡◌}
use mathlib.Core.List.{[]}
use Prim.Native.Nat.{ℕ, ◌*◌}
use lib.ListN.{get_or}
use Rattle.pages.specs.Pages.{part}
use Rattle.table.proofs.Table.{unless-same}
use Rattle.versions.specs.Store.{number_on}
use Rattle.walk.specs.FindPage.{page_number_of, or_zero}
use Rattle.model.specs.Calls.{view}
use Rattle.model.specs.InTurn.{blob_at}
use Rattle.model.specs.Model.{Limits, Model, history}
use Rattle.model.specs.OnModel.{model_outcome, page_number}
use Rattle.model.proofs.Area.Image.{pages_image}
use Rattle.model.proofs.Model.Sound.{Sound}
use Rattle.model.proofs.Model.Passed.{page-passed}
use Rattle.model.proofs.Area.Woven.{published-upto}
use Rattle.demands.specs.Run.{store_outcome}
use Rattle.demands.proofs.Image.{store_image, areas_image, image}
use Rattle.demands.proofs.Lines.{number-on}
use Rattle.demands.proofs.Steps.Found.{page-number, view-bytes}
use Rattle.demands.proofs.Steps.Stamp.{stamp-number}

module _ (L : Limits) (m : Model) (S : Sound L m) (l v p : ℕ) where
  pub view-outcome : store_outcome (image L m) l (view v p) ≡ model_outcome L m l (view v p)
  unfolding store_outcome model_outcome
  view-outcome =
      rw (
        stamp-number L m S l v p,
        unless-same (page_number L m l v p) []
            (part (pages_image L m) (L.size * or_zero (page_number_of L.pages (areas_image L m) (number_on (store_image L m) l v) p)) L.size)
            (get_or (blob_at (history m l) v) p [])
            (λ z.
            let g = page-passed L m l v p z in
            rw (number-on L m S l g.line v (published-upto L m S l g.line v g.published), page-number L m S l g.line v p g.published g.inside)
            (view-bytes L m S l g.line v p g.published g.inside)),
      )
