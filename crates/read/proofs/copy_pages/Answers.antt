-- The first page, whose number is given, and a turn for each page after it.
use Rattle.std.proofs.Common.{ap, sym, ◌∙◌}
use Rattle.versions.specs.Store.{lent}
use Rattle.table.specs.Refused.{numbered}
use Rattle.read.proofs.Chunks.{next_found, first_turn, next_turn}
use Rattle.read.proofs.copy_pages.Goals as goal

pub loop-i-init : goal.loop-i-init
loop-i-init c =
    let a = c.args in
    rw (c.copy_page.ensures.1, c.min.ensures) (first_turn a.s.now (lent a.areas.now) a.c a.t a.buffer.now a.number c.requires)

pub unwrap-next-requires : goal.unwrap-next-requires
unwrap-next-requires c =
    let a = c.args in
    next_found a.s.now (lent a.areas.now) a.c a.t a.buffer.now a.number c.requires c.loop-i.i c.page_number.result c.loop-i-test.true c.page_number.ensures

pub loop-i-preserved : goal.loop-i-preserved
loop-i-preserved c =
    let a = c.args in
    rw (c.copy_page-in-loop-i.ensures.1, c.min-in-loop-i.ensures, c.loop-i.invariant)
    (next_turn a.s.now (lent a.areas.now) a.c a.t a.buffer.now a.number c.requires c.loop-i.i c.unwrap-next.result c.loop-i.auto.i c.loop-i-test.true
    (sym c.page_number.ensures ∙ ap numbered c.unwrap-next.ensures))
