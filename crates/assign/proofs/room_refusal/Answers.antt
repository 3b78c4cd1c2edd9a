-- At each return, the rows passed and the row stopped at.
use Rattle.std.proofs.Common.{◌⊎◌, ◌≤◌, inl, inr, arith}
use Rattle.table.proofs.Table.{none, hit, skip, first}
use Rattle.versions.specs.Store.{line_in}
use Rattle.assign.proofs.room_refusal.Goals as goal
use Rattle.assign.proofs.room_refusal.Goals.{then-s-via-then-s, then-s-via-else-s+then-s-own}

pub returns-then-saturating_add-gt4096-clause-refused : goal.returns-then-saturating_add-gt4096-clause-refused
returns-then-saturating_add-gt4096-clause-refused c = first (hit (omega arith))

pub returns-then-from-clause-refused : goal.returns-then-from-clause-refused
returns-then-from-clause-refused c = first (skip (omega arith) (hit (omega arith)))

pub returns-then-s-clause-refused : goal.returns-then-s-clause-refused
returns-then-s-clause-refused c =
    let s = c.args.s.now in
    let lost : (s.updates ≤ s.assigned) ⊎ (s.updates ≤ (line_in s c.args.u.line.0).assigned.0) = elim c.then-s.branch [
      | then-s-via-then-s w ↦ inl w.if-s.true
      | then-s-via-else-s+then-s-own w ↦ inr (rw (← c.line_state-own.ensures) w.if-s-own.true)
    ] in
    first (skip (omega arith) (skip (omega arith) (hit lost)))

pub returns-clause-refused : goal.returns-clause-refused
returns-clause-refused c =
    first (skip (omega arith) (skip (omega arith) (skip (c.if-s.false, rw (← c.line_state-own.ensures) c.if-s-own.false) none)))
