-- The invariant of `print::write_bytes`: with the rest of the line put, the buffer is as it is to be.
use Rattle.std.proofs.Common.{◌≡◌, ◌≤◌, length, drop, ◌+◌}
use Rattle.text.specs.Buffer.{put_at}
use Rattle.print.proofs.Answering.{hex_line}
use Rattle.print.proofs.write_bytes.Given as goal

abbrev pub invariant-loop-b : goal.invariant-loop-b
invariant-loop-b l =
    (length l.out ≡ length l.initial.out)
    × (l.at + length (hex_line (drop l.b-index l.bytes)) ≡ l.initial.at + length (hex_line l.bytes))
    × (l.initial.at + length (hex_line l.bytes) ≤ length l.initial.out)
    × (put_at l.at (hex_line (drop l.b-index l.bytes)) l.out ≡ put_at l.initial.at (hex_line l.bytes) l.initial.out)
