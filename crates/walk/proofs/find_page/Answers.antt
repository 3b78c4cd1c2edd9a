use Rattle.std.proofs.Common.{refl, ◌∙◌}
use Rattle.versions.specs.Store.{lent}
use Rattle.walk.proofs.FromRoot.{find_none, find-some}
use Rattle.walk.proofs.find_page.Goals as goal

pub returns-in_err-d : goal.returns-in_err-d
returns-in_err-d c =
    let a = c.args in
    c.from_residual.ensures ∙ find_none (lent a.areas.now) a.page.0 a.c (rw c.version_part.ensures at (c.in_err-d.ensures.found 0 refl))

pub returns : goal.returns
returns c =
    let a = c.args in
    c.leaf_over.ensures ∙ find-some (lent a.areas.now) a.page.0 a.c c.in_ok-d.d (rw c.version_part.ensures at (c.in_ok-d.ensures.found 0 refl))
