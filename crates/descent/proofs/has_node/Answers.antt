use Rattle.std.proofs.Common.{arith, le-leb, sym, ◌∙◌}
use borrow.Author.Tests.{lt-leb}
use Rattle.descent.proofs.Levels.{has_at}
use Rattle.descent.proofs.has_node.Goals.{then-at-q, else-at-q}
use Rattle.descent.proofs.has_node.Goals as goal

pub returns-then-q-at : goal.returns-then-q-at
returns-then-q-at c = elim c.if-at-q.branch [
  | then-at-q w ↦ rw (le-leb c.args.at.span c.args.q.span w.if-at-q.true, sym w.value-is ∙ c.if-q-at.true) at (has_at c.args.q c.args.at)
  | else-at-q w ↦ grind (arith, w.value-is, c.if-q-at.true)
]

pub returns-else-q-at : goal.returns-else-q-at
returns-else-q-at c = c.if-q-at.false ∙ elim c.if-at-q.branch [
  | then-at-q w ↦ rw (le-leb c.args.at.span c.args.q.span w.if-at-q.true, sym w.value-is ∙ c.if-q-at.false) at (has_at c.args.q c.args.at)
  | else-at-q w ↦ rw (lt-leb c.args.at.span c.args.q.span w.if-at-q.false) at (has_at c.args.q c.args.at)
]
