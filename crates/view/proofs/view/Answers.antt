-- The part by the leaf that is found.
use Rattle.std.proofs.Common.{refl}
use Rattle.versions.specs.Store.{lent}
use Rattle.view.proofs.Views.{view_of_leaf}
use Rattle.view.proofs.view.Goals as goal

pub returns-in-Ok : goal.returns-in-Ok
returns-in-Ok c = rw (view_of_leaf c.args.s.now (lent c.args.areas.now) c.args.l.0 c.args.v.0 c.args.page.0, ← c.leaf_of.ensures, c.in-Ok.is) c.view_page.ensures

pub returns-in-Err : goal.returns-in-Err
returns-in-Err c = rw (view_of_leaf c.args.s.now (lent c.args.areas.now) c.args.l.0 c.args.v.0 c.args.page.0, ← c.leaf_of.ensures, c.in-Err.is) refl
