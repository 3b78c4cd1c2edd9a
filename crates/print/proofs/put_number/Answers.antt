-- The last digit first, in `print::put_number`.
use Rattle.std.proofs.Common.{refl, length-set, arith}
use Rattle.print.proofs.Answering.{left_all, left_more}
use Rattle.print.proofs.put_number.Goals as goal

pub loop-i-init : goal.loop-i-init
loop-i-init c = (c.ranges.n.fits, refl, left_all c.args.at c.args.n c.args.out.now _ c.ranges.n.fits (omega arith))

pub loop-i-preserved : goal.loop-i-preserved
loop-i-preserved c =
    let l = c.loop-i in
    (omega arith, simp length-set (omega arith), left_more l.invariant.2 l.invariant.0 (omega arith) (omega arith) _ c.digit.ensures)

pub returns : goal.returns
returns c = let l = c.loop-i.invariant.2 in (omega arith, l.done (omega (arith, l.above)))
