use Rattle.std.proofs.Common.{◌≡◌}
use Rattle.lines.specs.Lines.{version_of}
use Rattle.stamp.specs.Stamp.{since}
use Rattle.versions.specs.Store.{lent}
use Rattle.stamp.proofs.since.Given as goal

abbrev pub invariant-loop-lower : goal.invariant-loop-lower
invariant-loop-lower l =
    since l.s (lent l.areas) l.l.0 l.page.0 (version_of l.first.version) l.first.page
    ≡ since l.s (lent l.areas) l.l.0 l.page.0 (version_of l.fn.leaf.version) l.fn.leaf.page

abbrev pub decreases-loop-lower : goal.decreases-loop-lower
decreases-loop-lower l = version_of l.first.version
