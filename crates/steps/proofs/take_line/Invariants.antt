-- With the bytes that are left taken, the outcome is as it is to be. Assumes nothing.
use Rattle.std.proofs.Common.{◌≡◌, take, drop}
use Rattle.steps.specs.Inputs.{taken, line_taken}
use Rattle.steps.proofs.take_line.Given as goal

abbrev pub invariant-loop-at : goal.invariant-loop-at
invariant-loop-at l =
    let left = drop l.at (take l.at-end l.block) in
    (l.unread.at ≡ l.at)
    × (l.unread.end ≡ l.fn.unread.end)
    × (l.at-end ≡ l.fn.unread.end)
    × (taken left l.at l.cutter l.text ≡ line_taken l.fn.unread l.fn.cutter l.block l.fn.text)
