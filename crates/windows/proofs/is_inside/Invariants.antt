-- What is left of the places decides.
use Rattle.std.proofs.Common.{◌≡◌, drop}
use Rattle.windows.specs.Windows.{inside}
use Rattle.windows.proofs.is_inside.Given as goal

abbrev pub invariant-loop-place : goal.invariant-loop-place
invariant-loop-place l = inside l.w.places l.minute ≡ inside (drop l.place-index l.w.places) l.minute
