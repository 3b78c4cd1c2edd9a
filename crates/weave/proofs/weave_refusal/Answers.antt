-- Where rows 3 and 7 refuse, the rows after them do not count.
use Rattle.std.proofs.Common.{rules, ◌≡◌, ◌∙◌, arith}
use Rattle.table.specs.Table.{weave_rows}
use Rattle.table.specs.Refused.{number, number_in}
use Rattle.table.specs.declared.Refusal.{Refusal}
use Rattle.table.proofs.Refused.{number_stands}
use Rattle.table.proofs.Table.{first, or_else-0}
use Rattle.versions.proofs.Ticket.{stop}
use Rattle.weave.specs.Weave.{weave_refusal}
use Rattle.weave.proofs.weave_refusal.Goals as goal

-- A refusal's number is not 0.
some : (e : Refusal) → number e ≡ 0 → ⊥
some e z = omega (arith, number_stands e 1, or_else-0 (number e) 1 z)

pub returns-in_err-ticket_refusal-clause-number : goal.returns-in_err-ticket_refusal-clause-number
unfolding weave_refusal weave_rows
returns-in_err-ticket_refusal-clause-number c =
    let e = c.in_err-ticket_refusal.field-0.0 in
    let same : number_in c.from_residual.result ≡ number e = search rules in
    same ∙ first (stop c.in_err-ticket_refusal.ensures (some e))
