-- The parts of the image that stay where one ticket is changed, with as many slots as before.
-- Assumes nothing.
use mathlib.Core.Path.{◌≡◌, refl, ap}
use mathlib.Core.Logic.{◌≢◌}
use Prim.Native.Nat.{ℕ, suc, ◌<◌}
use Rattle.model.specs.History.{Ticket, pages_of}
use Rattle.model.specs.Model.{Limits, Model, update_at}
use Rattle.model.specs.OnModel.{ticket_in}
use Rattle.model.proofs.Model.Sound.{Sound}
use Rattle.model.proofs.Calls.Grows.{Grown}
use Rattle.model.proofs.Area.LayoutLaws.{nodes-used-kept, pages-used-kept}
use Rattle.model.proofs.Calls.Kept.Change.{changed, changed-length, changed-other}
use Rattle.demands.proofs.Image.{number_at, sources_image, lines_image, store_image}
use Rattle.demands.proofs.Steps.Grown.{number-at-kept, place-at-kept}
use Rattle.demands.proofs.Steps.Parts.{ticket_part, update_part, ticket-part, update-part}

module _ (L : Limits) (m : Model) (S : Sound L m) (t : ℕ) (k : Ticket) (o : 0 < t) (same : pages_of k ≡ pages_of (ticket_in m t)) (g : Grown m (changed m t k)) where
  pub changed-store : store_image L m ≡ store_image L (changed m t k)
  unfolding sources_image lines_image
  changed-store =
      rw (changed-length m t k o same, pages-used-kept m (changed m t k) g (changed-length m t k o same), nodes-used-kept m (changed m t k) g refl)

  pub changed-number : (i : ℕ) → number_at (changed m t k) i ≡ number_at m i
  changed-number = number-at-kept L m (changed m t k) S g (changed-length m t k o same)

  pub changed-ticket-part : (i : ℕ) → suc i ≢ t → ticket_part m i ≡ ticket_part (changed m t k) i
  changed-ticket-part i n = ticket-part m (changed m t k) i (ap (λ (x : Ticket). x.slots) (changed-other m t k o same (suc i) n)) (changed-number i) refl

  pub changed-update-part : (i : ℕ) → (update_at m (suc i)).ticket ≢ t → update_part m i ≡ update_part (changed m t k) i
  changed-update-part i n =
      update-part m (changed m t k) i refl (changed-other m t k o same (update_at m (suc i)).ticket n) (place-at-kept L m (changed m t k) S g refl i)
