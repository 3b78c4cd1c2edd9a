-- The trees of two lines from one shared version, by the rule and from a node area, by computation: a shared version has one number, whichever line reads it.
use Rattle.std.specs.Prelude.{◌≡◌, refl}
use Rattle.tree.specs.NodeArea.{node_at}
use Rattle.tree.specs.Place.{below, first, index}
use Rattle.tree.specs.Walk.{has_node}
use Rattle.model.specs.Run.{run}
use Rattle.model.specs.Example.{computes, limits, calls, more}
use Rattle.model.specs.Snapshot.{tree_of, tree_in, place_of_number, tree_at}
use Rattle.model.specs.Trees.{after, on_line0, on_line1, nodes_after}

pub first-tree : tree_at after 0 2 ≡ on_line0
unfolding computes limits calls more after run tree_of
first-tree = refl

pub second-tree : tree_at after 1 3 ≡ on_line1
unfolding computes limits calls more after run tree_of
second-tree = refl

pub first_found : tree_in (place_of_number after) nodes_after 1 2 0 ≡ on_line0
unfolding computes limits calls more after run tree_in place_of_number nodes_after node_at below first index has_node
first_found = refl

pub second-found : tree_in (place_of_number after) nodes_after 2 65539 0 ≡ on_line1
unfolding computes limits calls more after run tree_in place_of_number nodes_after node_at below first index has_node
second-found = refl
