use Rattle.std.proofs.Common.{ℕ, ◌+◌, ◌-◌, ◌%◌, ◌^◌, ap}
use Rattle.tree.specs.Contract.{height_in}
use Rattle.tree.proofs.Word.{own_power}
use Rattle.descent.proofs.Levels.{level-root}
use Rattle.descent.proofs.Level.of_root.Goals as goal

pub invariant_of-result : goal.invariant_of-result
invariant_of-result c =
    let s = c.args.root.span in
    record { carries = level-root c.args.page s _ c.args.root.is_root c.requires (ap (λ (h : ℕ). (0 + (2 ^ 64 - h)) % 2 ^ 64) (c.height_of.ensures (height_in s) (own_power s c.args.root.is_root))) }
