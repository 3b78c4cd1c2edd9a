-- The search goes on at `at` for the same line, with as many steps as are left.
use Rattle.std.proofs.Common.{◌≡◌, ◌-◌}
use Rattle.lines.specs.Lines.{owner_from, owner_of}
use Rattle.versions.specs.Store.{line_in}
use Rattle.versions.proofs.owner_of.Given as goal

abbrev pub invariant-loop : goal.invariant-loop
invariant-loop l = owner_from (16 - l.counter) (line_in l.s) l.at l.v.0 ≡ owner_of (line_in l.s) l.fn.l.0 l.v.0
