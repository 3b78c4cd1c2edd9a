-- SETWINDOWS on the image of a sound model is the model's: the windows alone move.
-- Assumes nothing.
use mathlib.Core.Path.{◌≡◌, refl}
use mathlib.Core.List.{List}
use Prim.Native.Nat.{ℕ, zero, suc}
use native.Mathlib.Omega.{arith}
use lib.ListN.{length}
use Rattle.text.specs.Text.{text_lines}
use Rattle.table.specs.Table.{never, unless, window_rows}
use Rattle.windows.specs.Windows.{placed}
use Rattle.windows.specs.Listed.{wrong, windows_of, text_number}
use Rattle.set_windows.specs.SetWindows.{set_number}
use Rattle.model.specs.Calls.{SETWINDOWS, windows_done, answers}
use Rattle.model.specs.Model.{Limits, Model}
use Rattle.model.specs.OnModel.{with_windows, on_model}
use Rattle.model.proofs.Area.Image.{pages_image, nodes_image}
use Rattle.model.proofs.Area.LayoutLaws.{nodes-used-kept, pages-used-kept, pages-same}
use Rattle.model.proofs.Model.Sound.{Sound}
use Rattle.model.proofs.Lists.Tab.{tab-same}
use Rattle.model.proofs.Calls.Kept.SetWindows.{windows-grown}
use Rattle.demands.specs.Answers.{windows_answer}
use Rattle.demands.specs.Run.{on_store}
use Rattle.demands.proofs.Image.{record_image, register_image, sources_image, lines_image, store_image, windows_image, areas_image, image}
use Rattle.demands.proofs.Steps.Numbers.{alike_same, image-number}
use Rattle.demands.proofs.Steps.States.{leaves, state_of, state-same}
use Rattle.demands.proofs.Steps.Grown.{nodes-grown, record_same}
use Rattle.table.specs.Refused.{answered}

module _ (L : Limits) (m : Model) (S : Sound L m) (t : List ℕ) where
  windows-number : set_number (store_image L m) (areas_image L m) t ≡ text_number t
  unfolding set_number text_number
  windows-number =
      let rows = window_rows (wrong t) (length (text_lines t)) in
      image-number L m S rows rows never (alike_same rows) (λ z. omega arith)

  -- Neither the store nor an area tells the windows.
  windows-store : store_image L m ≡ store_image L (with_windows L m t)
  unfolding sources_image lines_image
  windows-store = rw (pages-used-kept m (with_windows L m t) (windows-grown L m t) refl, nodes-used-kept m (with_windows L m t) (windows-grown L m t) refl)

  windows-register : register_image L m ≡ register_image L (with_windows L m t)
  unfolding register_image
  windows-register = tab-same L.updates (record_image m) (record_image (with_windows L m t)) (λ i h. record_same L m (with_windows L m t) S (windows-grown L m t) refl refl i refl)

  windows-image : state_of (store_image L m) (placed (windows_of t)) (pages_image L m) (nodes_image L m) (register_image L m) ≡ image L (with_windows L m t)
  windows-image =
      let m' = with_windows L m t in
      let g = windows-grown L m t in
      state-same windows-store (pages-same m m' g L refl (λ u i o h l s. refl)) (nodes-grown L m m' S g (λ k o h. refl) refl) windows-register

  windows-leaves : (k : ℕ)
      → leaves (state_of (store_image L m) (unless k (windows_image m) (placed (windows_of t))) (pages_image L m) (nodes_image L m) (register_image L m)) (windows_answer (answered k tt))
      ≡ leaves (image L (unless k m (with_windows L m t))) (answers k windows_done)
  unfolding unless
  windows-leaves zero = λ i. leaves (windows-image i) windows_done
  windows-leaves (suc k) = refl

  pub windows-step : on_store (image L m) (SETWINDOWS t) ≡ (image L (on_model L m (SETWINDOWS t)).0, (on_model L m (SETWINDOWS t)).1)
  unfolding on_store on_model
  windows-step = rw windows-number (windows-leaves (text_number t))
