-- Each line is a part between the line feeds: a wrong one, the next window, too many, and all of them.
use Rattle.std.proofs.Common.{◌≡◌, Some, None, Err, sym, ◌∙◌, length, rules, arith}
use Rattle.std.proofs.lemmas.Iterator.Consumers.{YieldsList-at, YieldsList-turn, YieldsList-end}
use Rattle.std.proofs.lemmas.Iterator.Splits.{YieldsList-from_slice_split}
use Rattle.std.proofs.lemmas.List.{map-append}
use Rattle.std.proofs.lemmas.Grind.{common_steps}
use lib.Dec.{eqb}
use Rattle.table.specs.Refused.{numbered}
use Rattle.windows.specs.Listed.{line_entry}
use Rattle.windows.proofs.Lines.{wrong_read, none_passed, stored_more, counted_more, many_read, all_read}
use Rattle.windows.proofs.read_lines.Goals as goal
use Rattle.windows.proofs.read_lines.Goals.{then-n-lt32, else-n-lt32}

pub loop-line-init : goal.loop-line-init
loop-line-init c = rw c.no_windows-windows.ensures none_passed

pub returns-in_err-w : goal.returns-in_err-w
returns-in_err-w c =
    let e = c.split-line-items.ensures in
    let at = YieldsList-turn
    (YieldsList-at c.into_iter-line-iterator.ensures.into_iter_gives
    (YieldsList-from_slice_split _ (λ b. eqb b 10) c.args.lines.now e.rest e.done e.closure (λ x b q k. search rules)))
    c.loop-line.yielded _ c.loop-line.yielded_by _ _ c.in-Some.line c.in-Some.is c.next.ensures.steps in
    let none : line_entry c.in-Some.line.now ≡ None = grind (arith, common_steps) in
    let wrong : numbered c.from_residual.result ≡ Err 23 = grind (arith, common_steps) in
    wrong ∙ sym (wrong_read c.args.lines.now (length c.loop-line.yielded) c.in-Some.line.now at none)

pub loop-line-preserved : goal.loop-line-preserved
loop-line-preserved c =
    let some : line_entry c.in-Some.line.now ≡ Some c.in_ok-w.w = grind (arith, common_steps) in
    elim c.if-n-lt32.branch [
      | then-n-lt32 w ↦ rw (map-append, w.windows-is) (stored_more c.loop-line.invariant c.in-Some.line.now c.in_ok-w.w some w.if-n-lt32.true)
      | else-n-lt32 w ↦ rw (map-append, w.windows-is) (counted_more c.loop-line.invariant c.in-Some.line.now c.in_ok-w.w some w.if-n-lt32.false)
    ]

pub returns-then-n-gt32 : goal.returns-then-n-gt32
returns-then-n-gt32 c =
    let e = c.split-line-items.ensures in
    let all = YieldsList-end
    (YieldsList-at c.into_iter-line-iterator.ensures.into_iter_gives
    (YieldsList-from_slice_split _ (λ b. eqb b 10) c.args.lines.now e.rest e.done e.closure (λ x b q k. search rules)))
    c.loop-line.yielded _ c.loop-line.yielded_by _ _ c.in-None.is c.next.ensures.steps in
    sym (many_read c.loop-line.invariant c.args.lines.now all.0 (omega arith))

pub returns : goal.returns
returns c =
    let e = c.split-line-items.ensures in
    let all = YieldsList-end
    (YieldsList-at c.into_iter-line-iterator.ensures.into_iter_gives
    (YieldsList-from_slice_split _ (λ b. eqb b 10) c.args.lines.now e.rest e.done e.closure (λ x b q k. search rules)))
    c.loop-line.yielded _ c.loop-line.yielded_by _ _ c.in-None.is c.next.ensures.steps in
    sym (all_read c.loop-line.invariant c.args.lines.now all.0 (omega arith))
