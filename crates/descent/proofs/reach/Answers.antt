use Rattle.std.proofs.Common.{sym, arith}
use Rattle.tree.specs.Contract.{height_in}
use Rattle.tree.proofs.Root.{height-le}
use Rattle.tree.proofs.Word.{own_power}
use Rattle.descent.specs.Places.{place_at}
use Rattle.descent.proofs.Levels.{height-lt, reach_here, reach-most}
use Rattle.descent.proofs.reach.Goals as goal

pub returns-then-root-to-clause-found : goal.returns-then-root-to-clause-found
returns-then-root-to-clause-found c j e =
    let a = c.args in
    let low = height-le j (height_in a.root.span) (omega (arith, own_power a.root.span a.root.is_root, e, c.if-root-to.true)) in
    sym (reach_here (place_at a.areas.now.register.now) a.areas.now.nodes.now j a.page.0 (height_in a.root.span) a.c low)

pub returns-then-c-eq18446744073709551615-clause-found : goal.returns-then-c-eq18446744073709551615-clause-found
returns-then-c-eq18446744073709551615-clause-found c j e =
    let a = c.args in
    let low = height-lt j (height_in a.root.span) (omega (arith, own_power a.root.span a.root.is_root, e, c.if-root-to.false)) in
    sym (rw c.if-c-eq18446744073709551615.true (reach-most a.areas.now.register.now a.areas.now.nodes.now j (height_in a.root.span) a.page.0 low))
