-- BEGIN n: what it answers and leaves, over any store and areas.
use Rattle.std.specs.Prelude.{List, ℕ, suc, ◌+◌, get_or, Result}
use Rattle.register.specs.Register.{no_record, with_ticket_fields, with_record}
use Rattle.register.specs.declared.Record.{Record}
use Rattle.table.specs.Table.{never, every_call, first_refusal, unless, begin_rows}
use Rattle.versions.specs.declared.Store.{Store}
use Rattle.versions.specs.declared.Lengths.{Lengths}
use Rattle.versions.specs.Store.{Areas, lengths_of, differ, with_tickets, Out}
use Rattle.table.specs.Refused.{answered}
use Rattle.tree.specs.declared.Ticket.{Ticket}

unfoldable pub begin_refusal : Store → Lengths → ℕ → ℕ
begin_refusal s l n = first_refusal (every_call (differ s l) (begin_rows n s.tickets.0 s.updates s.taken s.pages) never)

abbrev pub begin_number : Store → Areas → ℕ → ℕ
begin_number s a n = begin_refusal s (lengths_of a) n

abbrev pub begun : ℕ → ℕ → Result Ticket ℕ
begun k t = answered k (record { 0 = t })

-- The store with one ticket more, and n page numbers more taken.
abbrev pub with_ticket : Store → ℕ → Store
with_ticket s n = with_tickets s (suc s.tickets.0) (s.taken + n)

-- A record with a ticket's part anew: n pages from a page number on, none put, no update.
abbrev pub with_ticket_part : Record → ℕ → ℕ → Record
with_ticket_part r n number = with_ticket_fields r n number 0 0

-- What BEGIN gives back, by the table's number k.
abbrev pub begun_by : Store → ℕ → ℕ → Out Ticket
begun_by s n k = record { store = unless k s (with_ticket s n); answer = begun k (suc s.tickets.0) }

abbrev pub begin_out : Store → Areas → ℕ → Out Ticket
begin_out s a n = begun_by s n (begin_number s a n)

abbrev pub begin_register : Store → Areas → ℕ → List Record
begin_register s a n =
    unless (begin_number s a n) a.register
    (with_record a.register s.tickets.0 (with_ticket_part (get_or a.register s.tickets.0 no_record) n s.taken))
