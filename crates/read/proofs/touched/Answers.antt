-- The page of the last byte is not before that of the first.
use Rattle.std.proofs.Common.{refl}
use Rattle.read.proofs.Ranges.{touched_is}
use Rattle.read.proofs.touched.Goals as goal

pub returns : goal.returns
returns c = rw (touched_is c.args.size c.args.offset.0 c.args.len c.requires) refl
