-- PUT keeps the model sound.
-- Assumes nothing.
use Rattle.std.proofs.Common.{None, Some}
use mathlib.Core.Path.{◌≡◌, ap, sym, ◌∙◌}
use mathlib.Core.Logic.{◌≢◌}
use mathlib.Core.List.{List}
use Prim.Native.Nat.{ℕ, ◌≤◌, ◌<◌}
use native.Mathlib.Decide.{ℕ_discrete}
use native.Mathlib.Omega.{arith}
use lib.Seq.{get_or-set_same, get_or-set_other}
use lib.ListN.{length, get_or, set, length-set}
use Rattle.model.specs.History.{Page, Ticket, with_slots, pages_of}
use Rattle.model.specs.Model.{Limits, Model, update_at}
use Rattle.model.specs.OnModel.{ticket_in, put_number, filled_at}
use Rattle.model.proofs.Model.Sound.{SoundGiven, TicketSound}
use Rattle.model.proofs.Model.Passed.{PutPassed, put-passed}
use Rattle.model.proofs.Calls.Grows.{Grown}
use Rattle.model.proofs.Calls.Kept.Change.{changed-this, changed-other, changed-grown, changed-sound}

module _ (L : Limits) (m : Model) (t i : ℕ) (bytes : List ℕ) where
  abbrev pub filled_ticket : Ticket
  filled_ticket = with_slots (ticket_in m t) (set (ticket_in m t).slots i (Some bytes))

  pub filled-pages : pages_of filled_ticket ≡ pages_of (ticket_in m t)
  filled-pages = length-set (ticket_in m t).slots i (Some bytes)

  module _ {A : Type 0} (S : SoundGiven A L m) (p : PutPassed L m t i bytes) where
    -- The ticket is of no update.
    pub put-apart : (k : ℕ) → 0 < k → k ≤ length m.updates → (update_at m k).ticket ≢ t
    put-apart k o h e = let b = rw e at (S.updated k o h).back in omega (arith, p.unassigned)

    pub filled-this : ticket_in (filled_at L m t i bytes) t ≡ filled_ticket
    filled-this = changed-this m t filled_ticket p.from filled-pages p.upto

    filled-slots : (k : ℕ) → 0 < k → k ≤ length m.updates → (ticket_in (filled_at L m t i bytes) (update_at m k).ticket).slots ≡ (ticket_in m (update_at m k).ticket).slots
    filled-slots k o h = ap (λ (x : Ticket). x.slots) (changed-other m t filled_ticket p.from filled-pages (update_at m k).ticket (put-apart k o h))

    pub filled-grown : Grown m (filled_at L m t i bytes)
    filled-grown = changed-grown m t filled_ticket p.from filled-pages filled-slots (λ k o h w. put-apart k o h)

    filled-bytes : (j : ℕ) (x : Page) → get_or (set (ticket_in m t).slots i (Some bytes)) j None ≡ Some x → length x ≡ L.size
    filled-bytes j x e = elim (ℕ_discrete j i) [
      | yes q ↦
          let s : get_or (set (ticket_in m t).slots i (Some bytes)) j None ≡ Some bytes = rw q (get_or-set_same (ticket_in m t).slots i (Some bytes) None p.slot) in
          let y : x ≡ bytes = cc in
          rw y p.whole
      | no n ↦ (S.tickets t p.from p.upto).bytes j x (sym (get_or-set_other (ticket_in m t).slots i j (Some bytes) None n) ∙ e)
    ]

    filled-ticket : TicketSound L (filled_at L m t i bytes) t
    filled-ticket =
        let s = S.tickets t p.from p.upto in
        record {
          some-pages = rw (filled-this, filled-pages) s.some-pages;
          few = rw (filled-this, filled-pages) s.few;
          bytes = rw filled-this filled-bytes;
          unwoven = rw filled-this s.unwoven;
        }

    pub filled-passed : SoundGiven A L (filled_at L m t i bytes)
    filled-passed =
        changed-sound
        m
        t
        filled_ticket
        p.from
        filled-pages
        filled-slots
        (λ k o h w. put-apart k o h)
        L
        S
        filled-ticket
        (λ k o h e. absurd (put-apart k o h e))

  pub put-sound : {A : Type 0} → SoundGiven A L m → put_number L m t i bytes ≡ 0 → SoundGiven A L (filled_at L m t i bytes)
  put-sound S z = filled-passed S (put-passed L m t i bytes z)
