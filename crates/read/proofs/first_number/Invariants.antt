use Rattle.std.proofs.Common.{◌≡◌, ◌+◌, ◌-◌}
use Rattle.versions.specs.Store.{lent}
use Rattle.read.specs.Read.{some_lost}
use Rattle.read.proofs.first_number.Given as goal

abbrev pub invariant-loop-i : goal.invariant-loop-i
invariant-loop-i l =
    some_lost l.s.pages (lent l.areas) l.c l.first.0 l.n
    ≡ some_lost l.s.pages (lent l.areas) l.c (l.first.0 + l.i) (l.n - l.i)
