-- The trees of two lines from one shared version, by the rule and from a node area, by computation: a shared version has one number, whichever line reads it.
-- The theorems that compute them stand in proofs/Trees.
use Rattle.std.specs.Prelude.{List, ◌∷◌, ◌++◌, ℕ, replicate}
use Rattle.tree.specs.NodeArea.{all_ones}
use Rattle.model.specs.Model.{Model}
use Rattle.model.specs.Run.{model_after}
use Rattle.model.specs.Example.{limits, calls, more}
use Rattle.model.specs.Snapshot.{Tree, no_page, leaf, inner}

unfoldable pub after : Model
after = model_after limits (calls ++ more)

-- Version 2 of line 0 and version 3 of line 1; a leaf's page number is by its ticket: 0 and 1 are ticket 1's, 2 ticket 2's, 3 ticket 3's, 4 ticket 4's.
abbrev pub on_line0 : Tree
on_line0 = inner 2 0 1 2 1 (leaf 2 0 3 0) (leaf 1 1 1 0)

abbrev pub on_line1 : Tree
on_line1 = inner 65539 0 2 65538 65539 (inner 65538 0 1 1 65538 (leaf 1 0 0 0) (leaf 65538 1 2 0)) (inner 65539 2 1 65539 0 (leaf 65539 2 4 0) no_page)

-- The nodes in the order of ASSIGN: version 1 of line 0, version 2 of line 1, version 2 of line 0, version 3 of line 1, version 1 of line 2; then none.
unfoldable pub nodes_after : List ℕ
nodes_after =
    1 ∷ 1 ∷ 0 ∷ 0 ∷ 1 ∷ 0
    ∷ 1 ∷ 65538 ∷ 2 ∷ 0
    ∷ 2 ∷ 1 ∷ 3 ∷ 0
    ∷ 65538 ∷ 65539 ∷ 65539 ∷ 0 ∷ 4 ∷ 0
    ∷ 5 ∷ 0
    ∷ replicate 10 all_ones
