-- The nodes are a difference of two sums of halvings, and one for each height.
use Rattle.std.proofs.Common.{ℕ, ◌^◌, ◌<◌, arith, pow_mono}
use Rattle.tree.specs.Contract.{Pages}
use Rattle.tree.proofs.Ones.{count-ones, count-lt, ones-mono}
use Rattle.tree.proofs.node_count.Goals as goal

small : {f l h : ℕ} → Pages f l h → l < 2 ^ 32
small p = omega (arith, pow_mono p.low)

pub overflow_sub-result : goal.overflow_sub-result
overflow_sub-result c = let a = c.args in omega (arith, ones-mono a.f.0 a.last.0 (omega arith))

pub overflow_add-result : goal.overflow_add-result
overflow_add-result c = record { fits = omega (arith, small c.requires) }

pub overflow_add-result-2 : goal.overflow_add-result-2
overflow_add-result-2 c = record { fits = omega (arith, small c.requires) }

pub returns : goal.returns
returns c =
    let a = c.args in
    let e = count-ones a.f.0 a.last.0 a.height (omega arith) (omega arith) in
    let m = ones-mono a.f.0 a.last.0 (omega arith) in
    record { exact = omega arith; small = omega (arith, count-lt a.f.0 a.last.0 a.height (omega arith) (omega arith)) }
