use Rattle.std.proofs.Common.{◌≡◌, ◌+◌, ◌-◌, ◌/◌, arith}
use Rattle.tree.proofs.Halved.{halved-small}
use Rattle.lines.specs.Lines.{pick}
use Rattle.descent.proofs.Levels.{level-below}
use Rattle.descent.proofs.Level.below.Goals.{then-left, else-left, then-left-2, else-left-2, then-left-3, else-left-3}
use Rattle.descent.proofs.Level.below.Goals as goal

pub overflow_add-result-else-left-2 : goal.overflow_add-result-else-left-2
overflow_add-result-else-left-2 c = omega (arith, c.args.self.carries.inside, c.args.self.carries.halvings-of, halved-small c.args.self.first)

pub invariant_of-result : goal.invariant_of-result
invariant_of-result c =
    let l = c.args.self in
    let b = c.is_left-left.result in
    let first : c.if-left.result ≡ pick b l.first (l.first + l.span / 2) = elim c.if-left.branch [ then-left w ↦ rw w.if-left.true w.result-is | else-left w ↦ rw w.if-left.false w.result-is ] in
    let halved : c.if-left-2.result ≡ pick b l.halved (l.halved + (l.span - 1)) =
    elim c.if-left-2.branch [ then-left-2 w ↦ rw w.if-left-2.true w.result-is | else-left-2 w ↦ rw w.if-left-2.false w.result-is ] in
    let more : c.if-left-3.result ≡ pick b 1 l.span = elim c.if-left-3.branch [ then-left-3 w ↦ rw w.if-left-3.true w.result-is | else-left-3 w ↦ rw w.if-left-3.false w.result-is ] in
    record { carries = rw (first, halved, more) (level-below l.page l.first l.span l.halved l.carried l.carries c.requires b c.is_left-left.ensures) }
