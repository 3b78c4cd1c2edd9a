-- The invariant of `print::write_line`: with the rest of the line put, the buffer is as it is to be.
use Rattle.std.proofs.Common.{◌≡◌, ◌≤◌, length, drop, ◌+◌}
use Rattle.print.specs.Print.{numbers_line}
use Rattle.text.specs.Buffer.{put_at}
use Rattle.print.proofs.write_line.Given as goal

abbrev pub invariant-loop-number : goal.invariant-loop-number
invariant-loop-number l =
    (length l.out ≡ length l.initial.out)
    × (l.at + length (numbers_line (drop l.number-index l.numbers)) ≤ length l.initial.out)
    × (put_at l.at (numbers_line (drop l.number-index l.numbers)) l.out ≡ put_at l.initial.at (numbers_line l.numbers) l.initial.out)
