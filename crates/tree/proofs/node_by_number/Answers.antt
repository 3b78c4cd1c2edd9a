-- The node over the first page, or the one at its number in the whole tree.
use Rattle.std.proofs.Common.{◌≡◌, ℕ, ◌-◌, ◌/◌, ◌^◌, ◌≤◌, ap, ◌∙◌, arith, pow_pos}
use Rattle.tree.specs.Contract.{root_in, height_in}
use Rattle.tree.proofs.Root.{halved-span}
use Rattle.tree.proofs.Word.{own_power, height-in-low}
use Rattle.tree.proofs.Whole.{numbered-early, numbered-late}
use Rattle.tree.proofs.node_by_number.Goals as goal

-- The span of the node so many heights below the root.
span_below : (s k : ℕ) → root_in s ≡ s → k ≤ height_in s → s / 2 ^ k ≡ 2 ^ (height_in s - k)
span_below s k e p = ap (λ (n : ℕ). n / 2 ^ k) (own_power s e) ∙ halved-span (height_in s) k p

pub height_of-height-requires : goal.height_of-height-requires
height_of-height-requires c = let s = c.args.root.span in omega (arith, own_power s c.args.root.is_root, pow_pos (height_in s))

pub returns-then-k-height : goal.returns-then-k-height
returns-then-k-height c =
    let a = c.args in
    let e = c.height_of-height.ensures (height_in a.root.span) (own_power a.root.span c.args.root.is_root) in
    rw (numbered-late a.f.0 (height_in a.root.span) a.past a.k (omega (arith, e))) c.numbered.ensures

pub first_over-requires : goal.first_over-requires
first_over-requires c =
    let s = c.args.root.span in
    let e = c.height_of-height.ensures (height_in s) (own_power s c.args.root.is_root) in
    omega (arith, e, height-in-low s)

pub overflow_shr-result : goal.overflow_shr-result
overflow_shr-result c =
    let s = c.args.root.span in
    let e = c.height_of-height.ensures (height_in s) (own_power s c.args.root.is_root) in
    omega (arith, e, height-in-low s)

pub returns : goal.returns
returns c =
    let a = c.args in
    let own = c.args.root.is_root in
    let e = c.height_of-height.ensures (height_in a.root.span) (own_power a.root.span own) in
    let low : a.k ≤ height_in a.root.span = omega (arith, e) in
    rw (numbered-early a.f.0 (height_in a.root.span) a.past a.k low)
    (record { first = rw e at c.first_over.ensures; spans = span_below a.root.span a.k own low })
