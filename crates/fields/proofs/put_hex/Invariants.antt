-- The invariant of `fields::put_hex`: the first i bytes are put, and the others are as they were.
use Rattle.std.proofs.Common.{◌≡◌, ◌++◌, take, drop}
use Rattle.fields.specs.Fields.{unhex}
use Rattle.fields.proofs.put_hex.Given as goal

abbrev pub invariant-loop-i : goal.invariant-loop-i
invariant-loop-i l = l.bytes ≡ take l.i (unhex l.f) ++ drop l.i l.initial.bytes
