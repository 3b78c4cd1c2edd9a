-- The search goes from a node into the half that the number lies in.
use Rattle.std.proofs.Common.{inl, inr, arith, pow_mono}
use Rattle.tree.specs.Contract.{height_in}
use Rattle.tree.proofs.Word.{own_power, height-in-low}
use Rattle.tree.proofs.Numbering.{number-begins, number-left, number-right, number-ends}
use Rattle.tree.proofs.numbered.Goals as goal

pub loop-span-init : goal.loop-span-init
loop-span-init c = number-begins (height_in c.args.root.span) c.args.i c.args.root.span (own_power c.args.root.span c.args.root.is_root)

pub overflow_add-a : goal.overflow_add-a
overflow_add-a c = record { fits = omega (arith, c.loop-span.invariant.inside, pow_mono (height-in-low c.args.root.span)) }

pub loop-span-preserved-then-k-left : goal.loop-span-preserved-then-k-left
loop-span-preserved-then-k-left c = number-right c.loop-span.invariant (omega arith) c.if-k-gt0.true (omega arith)

pub loop-span-preserved : goal.loop-span-preserved
loop-span-preserved c = number-left c.loop-span.invariant (omega arith) c.if-k-gt0.true (omega arith)

pub returns-else-k-gt0 : goal.returns-else-k-gt0
returns-else-k-gt0 c = number-ends c.loop-span.invariant (inl (omega arith))

pub returns-after-loop-span : goal.returns-after-loop-span
returns-after-loop-span c = number-ends c.loop-span.invariant (inr (omega arith))
