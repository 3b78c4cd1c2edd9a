-- The versions above `v` are passed over.
use Rattle.std.proofs.Common.{◌≡◌}
use Rattle.register.specs.Register.{newest_own}
use Rattle.register.proofs.newest_own.Given as goal

abbrev pub invariant-loop-v : goal.invariant-loop-v
invariant-loop-v l = newest_own l.register l.l.0 l.fn.start.0 l.v l.first.0 l.span ≡ newest_own l.register l.l.0 l.fn.start.0 l.fn.below.0 l.first.0 l.span
