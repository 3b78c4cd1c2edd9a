use Rattle.std.proofs.Common.{◌≡◌}
use Rattle.versions.specs.Store.{lent}
use Rattle.read.proofs.Chunks.{filled}
use Rattle.read.proofs.copy_pages.Given as goal

abbrev pub invariant-loop-i : goal.invariant-loop-i
invariant-loop-i l = l.buffer ≡ filled l.s (lent l.areas) l.c l.t l.fn.buffer l.i
