-- The lines so far are windows, counted and stored.
use Rattle.std.proofs.Common.{map}
use Rattle.windows.proofs.Lines.{Passed}
use Rattle.windows.proofs.read_lines.Given as goal

abbrev pub invariant-loop-line : goal.invariant-loop-line
invariant-loop-line l = Passed l.windows.places l.n (map (λ x. x.now) l.yielded)
