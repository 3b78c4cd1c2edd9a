-- An r or n that it is not asked for makes 0, and for the others the write from page r / 2 - 1 on reaches the worst count.
use Rattle.std.proofs.Common.{◌≡◌, ℕ, suc, ◌/◌, ◌<◌, ◌≤◌, min, sym, ap, ◌∙◌, arith}
use Rattle.tree.specs.Tree.{root_height}
use Rattle.tree.specs.Contract.{root_span}
use Rattle.tree.proofs.Word.{own-span, power-span}
use Rattle.tree.proofs.Costliest.{Asked, asked_by, worst-none, worst-counted}
use Rattle.tree.proofs.worst.Goals as goal

pub returns-then-n-eq0 : goal.returns-then-n-eq0
returns-then-n-eq0 c = worst-none _ _ (λ a. omega (arith, a.some))

pub returns-then-n-min : goal.returns-then-n-min
returns-then-n-min c =
    let s = c.min.ensures in
    let t = c.if-n-min.true in
    worst-none _ _ (λ a. omega (arith, a.power, a.few, a.half, s, t))

-- Such a power is its own root's span.
pub returns-then-root_span-r : goal.returns-then-root_span-r
returns-then-root_span-r c =
    let w = c.root_span.ensures in
    let t = c.if-root_span-r.true in
    worst-none _ _ (λ a. t (w ∙ ap root_span a.power ∙ power-span (suc a.height) (omega (arith, a.low)) ∙ sym a.power))

-- What the tests leave.
tested : (r n x : ℕ) → x ≡ root_span r → x ≡ r → 0 < n → n ≤ min 64 (r / 2) → Asked r n
tested r n x e q o p = let s = own-span r (omega arith) (sym e ∙ q) in asked_by r n (root_height r) s.1 s.0 o p

pub node_count-requires : goal.node_count-requires
node_count-requires c =
    let a = c.args in
    let t = tested a.r a.n _ c.root_span.ensures c.if-root_span-r.false (omega arith) (omega (arith, c.min.ensures)) in
    rw (c.height_of.ensures (suc t.height) t.power) (record { order = omega arith; inside = omega (arith, t.power, t.half); low = omega (arith, t.low) })

pub returns : goal.returns
returns c =
    let a = c.args in
    let t = tested a.r a.n _ c.root_span.ensures c.if-root_span-r.false (omega arith) (omega (arith, c.min.ensures)) in
    c.node_count.ensures.exact ∙ worst-counted a.r a.n _ t (c.height_of.ensures (suc t.height) t.power)
