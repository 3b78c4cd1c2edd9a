-- WEAVE keeps the model sound.
-- Assumes nothing.
use mathlib.Core.Path.{◌≡◌, refl, ap}
use mathlib.Core.Logic.{◌≢◌}
use Prim.Native.Nat.{ℕ, suc, ◌≤◌, ◌<◌}
use native.Mathlib.Omega.{arith}
use lib.ListN.{length}
use Rattle.tree.specs.Tree.{count_of}
use Rattle.model.specs.History.{Ticket, no_ticket, to_update, with_woven}
use Rattle.model.specs.Model.{Limits, Model, update_at, ticket_update}
use Rattle.model.specs.OnModel.{ticket_in, weave_number, woven}
use Rattle.model.proofs.Model.Sound.{SoundGiven, TicketSound}
use Rattle.model.proofs.Model.Passed.{WeavePassed, weave-passed}
use Rattle.model.proofs.Lists.Nth.{nth-set-field}
use Rattle.model.proofs.Model.Shown.{Whole}
use Rattle.model.proofs.Calls.Grows.{Grown}
use Rattle.model.proofs.Calls.Kept.Change.{changed-this, changed-grown, changed-sound}

module _ (L : Limits) (m : Model) (t : ℕ) where
  abbrev pub woven_ticket : Ticket
  woven_ticket = with_woven (ticket_in m t) (suc (ticket_in m t).woven)

  module _ {A : Type 0} (S : SoundGiven A L m) (p : WeavePassed m t) where
    pub woven-this : ticket_in (woven L m t) t ≡ woven_ticket
    woven-this = changed-this m t woven_ticket p.from refl p.upto

    woven-slots : (k : ℕ) → 0 < k → k ≤ length m.updates → (ticket_in (woven L m t) (update_at m k).ticket).slots ≡ (ticket_in m (update_at m k).ticket).slots
    woven-slots k o h = nth-set-field no_ticket m.tickets t woven_ticket p.from (λ (x : Ticket). x.slots) (update_at m k).ticket refl

    -- The update of the ticket has nodes left.
    pub weave-left : (k : ℕ) → 0 < k → k ≤ length m.updates → (update_at m k).ticket ≡ t → (ticket_in m t).woven < count_of (to_update m.tickets (update_at m k))
    weave-left k o h e =
        let b : ticket_update m t ≡ k = rw e at (S.updated k o h).back in
        rw b at p.left

    pub weave-open : (k : ℕ) → 0 < k → k ≤ length m.updates → Whole m k → (update_at m k).ticket ≢ t
    weave-open k o h w e = omega (arith, weave-left k o h e, ap (λ (u : ℕ). (ticket_in m u).woven) e)

    pub woven-grown : Grown m (woven L m t)
    woven-grown = changed-grown m t woven_ticket p.from refl woven-slots weave-open

    woven-ticket : TicketSound L (woven L m t) t
    woven-ticket =
        let s = S.tickets t p.from p.upto in
        record {
          some-pages = rw woven-this s.some-pages;
          few = rw woven-this s.few;
          bytes = rw woven-this s.bytes;
          unwoven = λ z. absurd (omega (arith, p.assigned));
        }

    pub woven-passed : SoundGiven A L (woven L m t)
    woven-passed =
        changed-sound m t woven_ticket p.from refl woven-slots weave-open L S woven-ticket (λ k o h e. rw woven-this (weave-left k o h e))

  pub weave-sound : {A : Type 0} → SoundGiven A L m → weave_number L m t ≡ 0 → SoundGiven A L (woven L m t)
  weave-sound S z = woven-passed S (weave-passed L m t z)
