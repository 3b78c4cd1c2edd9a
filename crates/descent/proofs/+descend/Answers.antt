-- Each call goes on one level, from the node at it to the child that the page lies in.
use Rattle.std.proofs.Common.{◌-◌, sym, ◌∙◌, arith}
use Rattle.tree.specs.Contract.{height_in}
use Rattle.tree.proofs.Root.{height-le}
use Rattle.tree.proofs.Word.{own_power}
use Rattle.descent.specs.Places.{place_at}
use Rattle.descent.proofs.Places.{below-most}
use Rattle.descent.proofs.Levels.{above_zero, reach_here, reach-none, one_level, goes_on}
use Rattle.descent.proofs.+descend.Goals.{then-c-eq0-via-then-c-eq0, then-c-eq0-via-else-c-eq0+then-at-to}
use Rattle.descent.proofs.+descend.Goals as goal

pub returns-then-c-eq0 : goal.returns-then-c-eq0
returns-then-c-eq0 t c j e =
    let a = c.args in
    let at = place_at a.areas.now.register.now in
    let ns = a.areas.now.nodes.now in
    let h = height_in a.at.now.span in
    below-most a.c c.requires.0 ∙ sym (elim c.then-c-eq0.branch [
      | then-c-eq0-via-then-c-eq0 w ↦ rw w.if-c-eq0.true (reach-none at ns j a.at.now.page (h - j))
      | then-c-eq0-via-else-c-eq0+then-at-to w ↦ reach_here at ns j a.at.now.page h a.c (height-le j h (omega (arith, own_power a.at.now.span a.at.now.carries.spans, e, w.if-at-to.true)))
    ])

pub returns-in_default : goal.returns-in_default
returns-in_default t c j e =
    let a = c.args in
    let step = one_level a.areas.now.register.now a.areas.now.nodes.now a.at.now a.c a.to j (above_zero a.c c.if-c-eq0.false) c.if-at-to.false e in
    sym (rw (← c.in_default.ensures) at step)

pub returns : goal.returns
returns t c j e =
    let a = c.args in
    let rs = a.areas.now.register.now in
    let ns = a.areas.now.nodes.now in
    c.descend.ensures j e
    ∙ rw (c.below.ensures.0, c.below.ensures.1) (goes_on rs ns a.at.now a.c c.child_at-child.result a.to j c.in-Some.x c.is_left.result (above_zero a.c c.if-c-eq0.false) c.if-at-to.false e c.in-Some.ensures c.is_left.ensures c.child_at-child.ensures.0)
