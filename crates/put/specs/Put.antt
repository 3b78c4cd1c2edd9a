-- PUT ticket, i, bytes: what it answers and leaves, over any store and areas.
use Rattle.std.specs.Prelude.{ℕ, pred, ◌+◌, ◌*◌, ◌/◌, ◌%◌, ◌^◌, List, length, Result}
use Rattle.pages.specs.Pages.{put}
use Rattle.register.specs.Register.{with_ticket_fields, with_record}
use Rattle.register.specs.declared.Record.{Record}
use Rattle.table.specs.Table.{◌≤?◌, ◌<?◌, ◌or◌, every_call, first_refusal, unless, put_rows}
use Rattle.versions.specs.declared.Store.{Store}
use Rattle.versions.specs.declared.Lengths.{Lengths}
use Rattle.versions.specs.Store.{Areas, lengths_of, differ, record_of}
use Rattle.table.specs.Refused.{answered}

-- Bit i of a mask, and the mask with one added there; bits from 64 up are not kept.
unfoldable pub bit_of : ℕ → ℕ → ℕ
bit_of m i = m / 2 ^ i % 2

unfoldable pub with_bit : ℕ → ℕ → ℕ
with_bit m i = (m + 2 ^ i) % 2 ^ 64

-- PUT, with the ticket's record r: rows that read it do not hold where it lies past the register.
unfoldable pub put_refusal : Store → Lengths → Record → ℕ → ℕ → ℕ → ℕ
put_refusal s l r t i bytes =
    first_refusal
    (every_call
    (differ s l)
    (put_rows (t ≤? s.updates) t s.tickets.0 r.update r.n i (bit_of r.put i) bytes s.size)
    (s.updates <? t or s.pages ≤? r.number + i))

abbrev pub put_number : Store → Areas → ℕ → ℕ → List ℕ → ℕ
put_number s a t i bytes = put_refusal s (lengths_of a) (record_of a t) t i (length bytes)

-- The page number of page i of ticket t.
abbrev pub ticket_page : Areas → ℕ → ℕ → ℕ
ticket_page a t i = (record_of a t).number + i

-- A record with page i put.
abbrev pub with_put : Record → ℕ → Record
with_put r i = with_ticket_fields r r.n r.number (with_bit r.put i) r.update

abbrev pub put_out : Store → Areas → ℕ → ℕ → List ℕ → Result Unit ℕ
put_out s a t i bytes = answered (put_number s a t i bytes) tt

abbrev pub put_pages : Store → Areas → ℕ → ℕ → List ℕ → List ℕ
put_pages s a t i bytes = unless (put_number s a t i bytes) a.pages (put a.pages (s.size * ticket_page a t i) bytes)

abbrev pub put_register : Store → Areas → ℕ → ℕ → List ℕ → List Record
put_register s a t i bytes = unless (put_number s a t i bytes) a.register (with_record a.register (pred t) (with_put (record_of a t) i))
