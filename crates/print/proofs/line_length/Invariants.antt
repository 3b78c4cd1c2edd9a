-- The invariant of `print::line_length`: the bytes that are counted and those that are left.
use Rattle.std.proofs.Common.{◌≡◌, ◌*◌, ◌≤◌, length, drop, ◌+◌}
use Rattle.print.specs.Print.{numbers_line}
use Rattle.print.proofs.line_length.Given as goal

abbrev pub invariant-loop-n : goal.invariant-loop-n
invariant-loop-n l =
    (l.length ≤ 10 + 21 * l.n-index)
    × (l.length + length (numbers_line (drop l.n-index l.numbers)) ≡ length l.word + 1 + length (numbers_line l.numbers))
