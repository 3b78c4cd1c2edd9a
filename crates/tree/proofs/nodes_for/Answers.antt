-- Each limit that fails makes 0, and within all of them the root that holds the size holds the update.
use mathlib.Core.Bool.{and-false}
use Rattle.std.proofs.Common.{◌≡◌, ℕ, ◌+◌, ◌<◌, ◌∙◌, arith, lt-ltb, le-leb}
use borrow.Author.Tests.{lt-leb}
use Rattle.tree.specs.Tree.{node_count}
use Rattle.tree.specs.Contract.{nodes_for}
use Rattle.tree.proofs.Root.{root-fits, root-low, height-for}
use Rattle.tree.proofs.nodes_for.Goals as goal

-- An update that runs past the size has no count.
past : (f n s : ℕ) → s < f + n → 0 ≡ nodes_for f n s
unfolding nodes_for
past f n s p = simp (lt-leb (f + n) s p, and-false)

pub returns-then-n-eq0 : goal.returns-then-n-eq0
unfolding nodes_for
returns-then-n-eq0 c = simp c.if-n-eq0.true

pub returns-then-n-gt-MOST_UPDATED : goal.returns-then-n-gt-MOST_UPDATED
unfolding nodes_for
returns-then-n-gt-MOST_UPDATED c = simp (lt-leb _ 64 c.if-n-gt-MOST_UPDATED.true, and-false)

pub returns-then-size-gt-MOST_PAGES : goal.returns-then-size-gt-MOST_PAGES
unfolding nodes_for
returns-then-size-gt-MOST_PAGES c = simp (lt-leb _ 4096 c.if-size-gt-MOST_PAGES.true, and-false)

pub returns-then-n-size : goal.returns-then-n-size
returns-then-n-size c = past _ _ _ (omega arith)

pub returns-then-f-latest : goal.returns-then-f-latest
returns-then-f-latest c = past _ _ _ (omega arith)

pub node_count-requires : goal.node_count-requires
node_count-requires c =
    let s = c.args.size in
    rw (c.root_height.ensures ∙ height-for s (omega arith)) (record { order = omega arith; inside = omega (arith, root-fits s); low = omega (arith, root-low s (omega arith)) })

pub returns : goal.returns
unfolding nodes_for node_count
returns c =
    let a = c.args in
    simp (lt-ltb 0 a.n (omega arith), le-leb a.n 64 (omega arith), lt-ltb 0 a.size (omega arith), le-leb a.size 4096 (omega arith), le-leb (a.f + a.n) a.size (omega arith)) (c.node_count.ensures.exact ∙ rw (c.root_height.ensures ∙ height-for a.size (omega arith)))
