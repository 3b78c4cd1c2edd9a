use Rattle.std.proofs.Common.{arith, lt-ltb}
use borrow.Author.Tests.{lt-leb}
use Rattle.spans.specs.Span.{root_span}
use Rattle.spans.proofs.root_span.Goals as goal

pub returns-then-size-gt4096 : goal.returns-then-size-gt4096
unfolding root_span
returns-then-size-gt4096 c = rw (lt-ltb 0 c.args.size (omega arith), lt-leb c.args.size 4096 (omega arith))
