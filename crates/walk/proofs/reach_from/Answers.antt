-- Past the root nothing is reached; else the walk begins at the root.
use Rattle.std.proofs.Common.{ℕ, ◌-◌, sym, ap, ◌∙◌}
use Rattle.tree.specs.Walk.{reach_by}
use Rattle.tree.proofs.Word.{root-in-held}
use Rattle.versions.specs.Store.{lent}
use Rattle.descent.specs.Places.{place_at}
use Rattle.walk.proofs.FromRoot.{from-root, from_past}
use Rattle.walk.proofs.reach_from.Goals as goal

pub returns-then-page-root-clause-found : goal.returns-then-page-root-clause-found
returns-then-page-root-clause-found c j e = sym (from_past (lent c.args.areas.now) c.args.c c.args.span c.args.page.0 j (rw c.root_within-root.ensures at c.if-page-root.true))

pub reach-requires : goal.reach-requires
reach-requires c = (c.if-page-root.false, c.requires)

pub returns-clause-found : goal.returns-clause-found
returns-clause-found c j e =
    let a = c.args in
    c.reach.ensures.found j e
    ∙ ap (λ (h : ℕ). reach_by (place_at a.areas.now.register.now) a.areas.now.nodes.now j (h - j) a.c a.page.0) (rw c.root_within-root.ensures (root-in-held a.span).1)
    ∙ sym (from-root (lent a.areas.now) a.c a.span a.page.0 j (rw c.root_within-root.ensures at c.if-page-root.false))
