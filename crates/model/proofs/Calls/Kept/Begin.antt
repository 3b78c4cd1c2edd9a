-- BEGIN keeps the model sound: one more ticket.
-- Assumes nothing.
use Rattle.std.proofs.Common.{None}
use mathlib.Core.Path.{◌≡◌, refl, ap, ◌∙◌}
use mathlib.Core.Logic.{inl, inr}
use mathlib.Core.List.{[], ◌∷◌}
use Prim.Native.Nat.{ℕ, suc, ◌+◌, ◌≤◌, ◌<◌}
use native.Mathlib.Omega.{arith}
use lib.ListN.{length, replicate, length-replicate}
use Rattle.tree.proofs.Meets.{lt-or-le}
use Rattle.model.specs.History.{Ticket, no_ticket, pages_of, with_slots}
use Rattle.model.specs.Model.{Limits, Model, line_at, update_at}
use Rattle.model.specs.Layout.{pages_used}
use Rattle.model.specs.OnModel.{ticket_in, begin_number, begun}
use Rattle.model.proofs.Model.Sound.{SoundGiven, TicketSound}
use Rattle.model.proofs.Model.Passed.{BeginPassed, begin-passed}
use Rattle.model.proofs.Lists.Slots.{none-there}
use Rattle.model.proofs.Lists.Nth.{length-snoc, nth-append, nth-new}
use Rattle.model.proofs.Area.LayoutLaws.{page-open, nodes-used-kept, pages-used-more}
use Rattle.model.proofs.Model.Facts.{ticket-past}
use Rattle.model.proofs.Calls.Grows.{Grown, line-unmoved}
use Rattle.model.proofs.Calls.Kept.Same.{ticket-same, update-kept, line_same}

module _ (L : Limits) (m : Model) (n : ℕ) where
  abbrev pub new_ticket : Ticket
  new_ticket = with_slots no_ticket (replicate n None)

  pub begun-ticket : (t : ℕ) → t ≤ length m.tickets → ticket_in (begun L m n) t ≡ ticket_in m t
  begun-ticket t h = nth-append no_ticket m.tickets (new_ticket ∷ []) t h

  pub begun-new : ticket_in (begun L m n) (suc (length m.tickets)) ≡ new_ticket
  begun-new = nth-new no_ticket m.tickets new_ticket

  module _ {A : Type 0} (S : SoundGiven A L m) where
    -- The ticket of an update is as it was.
    pub begun-old : (k : ℕ) → 0 < k → k ≤ length m.updates → ticket_in (begun L m n) (update_at m k).ticket ≡ ticket_in m (update_at m k).ticket
    begun-old k o h = begun-ticket (update_at m k).ticket (S.updated k o h).upto

    pub begun-grown : Grown m (begun L m n)
    begun-grown = record {
      tickets = omega (arith, length-snoc m.tickets new_ticket);
      updates = omega arith;
      lines = omega arith;
      version = λ k h. refl;
      got = λ t o. refl;
      slots = λ k o h. ap (λ (x : Ticket). x.slots) (begun-old k o h);
      pages = λ t h. ap pages_of (begun-ticket t h);
      whole = λ k o h w. ap (λ (x : Ticket). x.woven) (begun-old k o h);
      line = λ l h. line-unmoved (line_at m l) (line_at m l) refl;
    }

    -- It uses n page numbers more.
    pub begun-used : pages_used (begun L m n) ≡ pages_used m + n
    begun-used =
        let m' = begun L m n in
        let k = length-snoc m.tickets new_ticket in
        pages-used-more m m' begun-grown k (λ i h. page-open m' (suc (length m.tickets)) i (omega arith) (omega arith) h (ticket-past L m S (suc (length m.tickets)) (omega arith)))
        ∙ rw (begun-new, length-replicate)

    module _ (p : BeginPassed L m n) where
      new-ticket : TicketSound L (begun L m n) (suc (length m.tickets))
      new-ticket = record {
        some-pages = rw (begun-new, length-replicate) p.some-pages;
        few = rw (begun-new, length-replicate) p.few;
        bytes = rw begun-new (λ i x e. let z : ◌≡◌ {A = ℕ} 0 1 = cc (none-there n i) in absurd (omega arith));
        unwoven = λ z. rw begun-new;
      }

      begun-tickets : (t : ℕ) → 0 < t → t ≤ length (begun L m n).tickets → TicketSound L (begun L m n) t
      begun-tickets t o h = elim (lt-or-le (length m.tickets) t) [
        | inl l ↦ let e : t ≡ suc (length m.tickets) = omega (arith, length-snoc m.tickets new_ticket) in rw e new-ticket
        | inr l ↦ ticket-same L m (begun L m n) t (begun-ticket t l) (λ z. z) (S.tickets t o l)
      ]

      pub begun-passed : SoundGiven A L (begun L m n)
      begun-passed = record {
        allowed = S.allowed;
        records = rw length-snoc p.record-left;
        fewer = rw length-snoc (omega (arith, S.fewer));
        page_room = rw begun-used p.pages-left;
        node_room = rw (nodes-used-kept m (begun L m n) begun-grown refl) S.node_room;
        tickets = begun-tickets;
        updated = λ k o h. update-kept L m (begun L m n) S begun-grown k o h (rw (begun-old k o h) (S.updated k o h).woven);
        begun = S.begun;
        few = S.few;
        lines = λ l h. line_same L m (begun L m n) S begun-grown l h refl;
        windows = S.windows;
      }

    pub begun-sound : begin_number L m n ≡ 0 → SoundGiven A L (begun L m n)
    begun-sound z = begun-passed (begin-passed L m n z)
