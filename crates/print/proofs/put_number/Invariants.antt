-- The invariant of `print::put_number`: with the digits that are left put, the buffer is as it is to be.
use Rattle.std.proofs.Common.{◌≡◌, ◌^◌, length, ◌<◌}
use Rattle.print.proofs.Answering.{Left}
use Rattle.print.proofs.put_number.Given as goal

abbrev pub invariant-loop-i : goal.invariant-loop-i
invariant-loop-i l = (l.rest < 2 ^ 64) × (length l.out ≡ length l.initial.out) × Left l.at l.n l.initial.out l.rest l.i l.out
