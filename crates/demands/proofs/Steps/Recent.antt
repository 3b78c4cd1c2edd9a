-- RECENT on the image of a sound model is the model's.
-- Assumes nothing.
use mathlib.Core.Path.{◌≡◌, ap}
use Prim.Native.Nat.{ℕ}
use native.Mathlib.Omega.{arith}
use lib.ListN.{length}
use Rattle.table.specs.Table.{never, line_rows}
use Rattle.versions.specs.Recent.{recent_number}
use Rattle.model.specs.Calls.{recent, says}
use Rattle.model.specs.Model.{Limits, Model, line_at}
use Rattle.model.specs.OnModel.{model_outcome, line_number}
use Rattle.model.proofs.Model.Sound.{Sound}
use Rattle.demands.specs.Run.{store_outcome}
use Rattle.demands.proofs.Image.{store_image, areas_image, image}
use Rattle.demands.proofs.Lines.{lines-in, line-in}
use Rattle.demands.proofs.Readings.{latest-reads}
use Rattle.demands.proofs.Steps.Numbers.{alike_same, image-number}

module _ (L : Limits) (m : Model) (S : Sound L m) (l : ℕ) where
  recent-number : recent_number (store_image L m) (areas_image L m) l ≡ line_number L m l
  unfolding recent_number
  recent-number =
      rw (lines-in L m S) (let rows = line_rows l (length m.lines) in image-number L m S rows rows never (alike_same rows) (λ z. omega arith))

  pub recent-outcome : store_outcome (image L m) l recent ≡ model_outcome L m l recent
  unfolding store_outcome model_outcome
  recent-outcome = rw (recent-number, line-in L m S l) (ap says (latest-reads (line_number L m l) (line_at m l).published))
