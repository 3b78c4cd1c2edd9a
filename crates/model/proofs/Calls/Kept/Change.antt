-- A ticket changed, with as many slots as before: what it leaves, and when the model stays sound.
-- Assumes nothing.
use mathlib.Core.Path.{◌≡◌, refl, ap}
use mathlib.Core.Logic.{◌≢◌}
use Prim.Native.Nat.{ℕ, pred, ◌≤◌, ◌<◌}
use native.Mathlib.Decide.{ℕ_discrete}
use native.Mathlib.Omega.{arith}
use lib.ListN.{length, set, length-set}
use Rattle.tree.specs.Tree.{count_of}
use Rattle.model.specs.History.{Ticket, no_ticket, pages_of, to_update}
use Rattle.model.specs.Model.{Limits, Model, line_at, update_at, with_tickets}
use Rattle.model.specs.OnModel.{ticket_in}
use Rattle.model.proofs.Model.Sound.{SoundGiven, TicketSound, UpdateSound}
use Rattle.model.proofs.Lists.Nth.{nth-set-same, nth-set-other, nth-set-field}
use Rattle.model.proofs.Area.LayoutLaws.{nodes-used-kept, pages-used-kept}
use Rattle.model.proofs.Model.Shown.{Whole}
use Rattle.model.proofs.Calls.Grows.{Grown, line-unmoved}
use Rattle.model.proofs.Calls.Kept.Same.{ticket-same, update-kept, line_same}

abbrev pub changed : Model → ℕ → Ticket → Model
changed m t k = with_tickets m (set m.tickets (pred t) k)

module _ (m : Model) (t : ℕ) (x : Ticket) (o : 0 < t) (same : pages_of x ≡ pages_of (ticket_in m t)) where
  pub changed-pages : (u : ℕ) → pages_of (ticket_in (changed m t x) u) ≡ pages_of (ticket_in m u)
  changed-pages u = nth-set-field no_ticket m.tickets t x o pages_of u same

  pub changed-length : length (changed m t x).tickets ≡ length m.tickets
  changed-length = length-set m.tickets (pred t) x

  pub changed-this : t ≤ length m.tickets → ticket_in (changed m t x) t ≡ x
  changed-this h = nth-set-same no_ticket m.tickets t x o h

  pub changed-other : (u : ℕ) → u ≢ t → ticket_in (changed m t x) u ≡ ticket_in m u
  changed-other u n = nth-set-other no_ticket m.tickets t x o u n

  -- The model grows where the ticket's update, if it has one, keeps its pages and is not whole.
  module _ (slots : (k : ℕ) → 0 < k → k ≤ length m.updates
      → (ticket_in (changed m t x) (update_at m k).ticket).slots ≡ (ticket_in m (update_at m k).ticket).slots)
      (unwhole : (k : ℕ) → 0 < k → k ≤ length m.updates → Whole m k → (update_at m k).ticket ≢ t) where
    pub changed-grown : Grown m (changed m t x)
    changed-grown = record {
      tickets = omega (arith, changed-length);
      updates = omega arith;
      lines = omega arith;
      version = λ k h. refl;
      got = λ u p. refl;
      slots = slots;
      pages = λ u h. changed-pages u;
      whole = λ k p h w. ap (λ (y : Ticket). y.woven) (changed-other (update_at m k).ticket (unwhole k p h w));
      line = λ l h. line-unmoved (line_at m l) (line_at m l) refl;
    }

    -- It stays sound where the ticket does, and its update has no more nodes woven than it has.
    module _ {A : Type 0} (L : Limits) (S : SoundGiven A L m) (this : TicketSound L (changed m t x) t)
        (its : (k : ℕ) → 0 < k → k ≤ length m.updates → (update_at m k).ticket ≡ t
        → (ticket_in (changed m t x) t).woven ≤ count_of (to_update m.tickets (update_at m k))) where
      changed-tickets : (u : ℕ) → 0 < u → u ≤ length (changed m t x).tickets → TicketSound L (changed m t x) u
      changed-tickets u p h = elim (ℕ_discrete u t) [
        | yes e ↦ rw e this
        | no n ↦ ticket-same L m (changed m t x) u (changed-other u n) (λ z. z) (S.tickets u p (omega (arith, changed-length)))
      ]

      changed-updated : (k : ℕ) → 0 < k → k ≤ length m.updates → UpdateSound (changed m t x) k
      changed-updated k p h = update-kept L m (changed m t x) S changed-grown k p h (elim (ℕ_discrete (update_at m k).ticket t) [
        | yes e ↦ rw (ap (λ (u : ℕ). (ticket_in (changed m t x) u).woven) e) (its k p h e)
        | no n ↦ rw (changed-other (update_at m k).ticket n) (S.updated k p h).woven
      ])

      pub changed-sound : SoundGiven A L (changed m t x)
      changed-sound = record {
        allowed = S.allowed;
        records = rw changed-length S.records;
        fewer = rw changed-length S.fewer;
        page_room = rw (pages-used-kept m (changed m t x) changed-grown changed-length) S.page_room;
        node_room = rw (nodes-used-kept m (changed m t x) changed-grown refl) S.node_room;
        tickets = changed-tickets;
        updated = changed-updated;
        begun = S.begun;
        few = S.few;
        lines = λ l h. line_same L m (changed m t x) S changed-grown l h refl;
        windows = S.windows;
      }
