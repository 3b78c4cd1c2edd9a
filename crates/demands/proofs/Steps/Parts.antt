-- The parts of an image that a call leaves as they were: a ticket's part of a record, an update's, and the lines' entries.
-- Assumes nothing.
use mathlib.Core.Path.{◌≡◌, sym, ◌∙◌}
use mathlib.Core.Logic.{inl, inr, ◌≢◌}
use mathlib.Core.List.{List, [], ◌∷◌, ◌++◌}
use Prim.Native.Nat.{ℕ, zero, suc, ◌≤◌, ◌<◌}
use native.Mathlib.Omega.{arith}
use borrow.Author.Tests.{lt-ltb, le-ltb}
use lib.Dec.{ltb}
use lib.ListN.{length}
use Rattle.tree.proofs.Meets.{lt-or-le}
use Rattle.tree.specs.Tree.{nth}
use Rattle.tree.specs.declared.Ticket.{Ticket as Named}
use Rattle.lines.specs.Lines.{entries_of}
use Rattle.lines.specs.declared.Entries.{Entries}
use Rattle.lines.proofs.Packed.{entries-same}
use Rattle.register.specs.Register.{no_record, with_ticket_fields, with_update_fields, with_entries}
use Rattle.register.specs.declared.Record.{Record}
use Rattle.model.specs.History.{Ticket, Version, no_version, pages_of}
use Rattle.model.specs.Model.{Limits, Model, update_at, ticket_update}
use Rattle.register.specs.declared.Part.{Part}
use Rattle.model.specs.OnModel.{ticket_in, either}
use Rattle.model.proofs.Model.Sound.{Sound}
use Rattle.model.proofs.Lists.Nth.{length-snoc, nth-append, nth_past}
use Rattle.demands.proofs.Image.{mask_of, number_at, first_place_at, own_at, part_image}

-- ---- records

pub record TicketPart : Type 0 where
  pub n : ℕ
  pub number : ℕ
  pub put : ℕ
  pub update : ℕ

pub record UpdatePart : Type 0 where
  pub ticket : Named
  pub part : Part

-- A record of the image has all three: `record_image m i` is `all (ticket_part m i) (update_part m i) (entries_at m i)`.
abbrev pub all : TicketPart → UpdatePart → Entries → Record
all k u e = with_entries (with_update_fields (with_ticket_fields no_record k.n k.number k.put k.update) u.ticket u.part) e

pub all_same : {k k' : TicketPart} {u u' : UpdatePart} {e e' : Entries} → k ≡ k' → u ≡ u' → e ≡ e' → all k u e ≡ all k' u' e'
all_same a b c = λ i. all (a i) (b i) (c i)

abbrev pub ticket_part : Model → ℕ → TicketPart
ticket_part m i =
    let k = ticket_in m (suc i) in
    record { n = pages_of k; number = number_at m i; put = mask_of k.slots; update = ticket_update m (suc i) }

-- The part of an update of these tickets, with the place at which its nodes begin.
abbrev pub part_of : List Ticket → Version → ℕ → UpdatePart
part_of ks u place = record { ticket = record { 0 = u.ticket }; part = part_image ks u place }

abbrev pub update_part : Model → ℕ → UpdatePart
update_part m i = part_of m.tickets (update_at m (suc i)) (first_place_at m i)

abbrev pub entries_at : Model → ℕ → Entries
entries_at m i = entries_of (λ l. own_at m l (suc i))

module _ (m m' : Model) (i : ℕ) where
  pub ticket-part : (ticket_in m' (suc i)).slots ≡ (ticket_in m (suc i)).slots → number_at m' i ≡ number_at m i → ticket_update m' (suc i) ≡ ticket_update m (suc i)
      → ticket_part m i ≡ ticket_part m' i
  ticket-part s n u = rw (s, n, u)

  pub update-part : update_at m' (suc i) ≡ update_at m (suc i) → ticket_in m' (update_at m (suc i)).ticket ≡ ticket_in m (update_at m (suc i)).ticket
      → first_place_at m' i ≡ first_place_at m i → update_part m i ≡ update_part m' i
  update-part u t p = rw (u, t, p)

  -- The lines' own versions, where each line's is the same.
  pub entries-stay : ((l : ℕ) → l < 16 → own_at m l (suc i) ≡ own_at m' l (suc i)) → entries_at m i ≡ entries_at m' i
  entries-stay h = entries-same (λ l. own_at m l (suc i)) (λ l. own_at m' l (suc i)) h

-- One element more leaves those at other indexes, also past the end, and where they begin.
pub other_at : {A : Type 0} (d : A) (xs : List A) (x : A) (i : ℕ) → i ≢ length xs → nth d (xs ++ x ∷ []) (suc i) ≡ nth d xs (suc i)
other_at d xs x i h = elim (lt-or-le i (length xs)) [
  | inl l ↦ nth-append d xs (x ∷ []) (suc i) l
  | inr l ↦
      let g : length xs < i = omega arith in
      nth_past d (xs ++ x ∷ []) (suc i) (rw length-snoc (omega arith)) ∙ sym (nth_past d xs (suc i) (omega arith))
]

pub other-begins : (i n x y : ℕ) → i ≢ n → (i < n → x ≡ y) → either (ltb i (suc n)) x 0 ≡ either (ltb i n) y 0
other-begins i n x y h e = elim (lt-or-le i n) [
  | inl l ↦ rw (lt-ltb i n l, lt-ltb i (suc n) (omega arith), e l)
  | inr l ↦ rw (le-ltb i n l, le-ltb i (suc n) (omega arith))
]

pub new-begins : (n x : ℕ) → either (ltb n (suc n)) x 0 ≡ x
new-begins n x = rw (lt-ltb n (suc n) (omega arith))

-- The ticket of an update is one of those given; that of no update is 0.
pub ticket-within : (L : Limits) (m : Model) → Sound L m → (k : ℕ) → (update_at m k).ticket ≤ length m.tickets
ticket-within L m S zero = omega arith
ticket-within L m S (suc i) = elim (lt-or-le (length m.updates) (suc i)) [
  | inl l ↦ rw (nth_past no_version m.updates (suc i) l) (omega arith)
  | inr l ↦ (S.updated (suc i) (omega arith) l).upto
]
