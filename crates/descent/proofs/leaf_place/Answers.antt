use Rattle.std.proofs.Common.{sym, ◌∙◌}
use Rattle.descent.proofs.Levels.{leaf-height}
use Rattle.descent.proofs.Places.{leaf-there, leaf-past}
use Rattle.descent.proofs.leaf_place.Goals as goal

pub returns-then-page-ge-MOST_PAGES : goal.returns-then-page-ge-MOST_PAGES
returns-then-page-ge-MOST_PAGES c = sym (leaf-past c.args.q c.args.c c.args.page.0 c.if-page-ge-MOST_PAGES.true)

pub returns : goal.returns
returns c = (rw (c.of_leaf.ensures.0, c.of_leaf.ensures.1, leaf-height) at c.place_of.ensures) ∙ sym (leaf-there c.args.q c.args.c c.args.page.0 c.if-page-ge-MOST_PAGES.false)
