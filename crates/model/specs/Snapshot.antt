-- A version of a line as it is compared: its size, its pages with their stamps, and its tree from the root down through the children's numbers.
use Rattle.std.specs.Prelude.{◌&&◌, List, ℕ, zero, suc, ◌+◌, ◌/◌, ◌%◌, ◌^◌, ltb, Option, Some, None}
use Rattle.tree.specs.Tree.{Update, nth, newest, root_height, height_of}
use Rattle.tree.specs.Place.{index}
use Rattle.tree.specs.Walk.{Numbers, has_node, visit, place_where}
use Rattle.model.specs.History.{Page, version_at, to_update, updates}
use Rattle.model.specs.InTurn.{blob_at}
use Rattle.model.specs.Stamp.{stamps_upto}
use Rattle.model.specs.Model.{Model, line_at, update_at, history, number_in}
use Rattle.model.specs.Layout.{node_place, leaf_number}
use Rattle.tree.specs.declared.Stored.{Stored}

-- A tree: a leaf has its version's number, its page and its two numbers; an inner node its version's number, first page and height, and both its
-- children's numbers. Below number 0 there is no page; a node that is not stored is missing.
pub data Tree : Type 0 where
  no_page : Tree
  missing : Tree
  leaf : ℕ → ℕ → ℕ → ℕ → Tree
  inner : ℕ → ℕ → ℕ → ℕ → ℕ → Tree → Tree → Tree

-- The tree rule: the node of version v at (a, h), and all below it, from the updates and what their versions and leaves are called.
unfoldable pub tree_of : List Update → Numbers → ℕ → ℕ → ℕ → Tree
tree_of us N zero zero a = no_page
tree_of us N zero (suc v) a = leaf (N.code (suc v)) a (N.leaf (suc v) a) (N.second (suc v) a)
tree_of us N (suc h) zero a = no_page
tree_of us N (suc h) (suc v) a =
    let l = newest us (suc v) a (2 ^ h) in
    let r = newest us (suc v) (a + 2 ^ h) (2 ^ h) in
    inner (N.code (suc v)) a (suc h) (N.code l) (N.code r) (tree_of us N h l a) (tree_of us N h r (a + 2 ^ h))

abbrev pub leaf_in : Option Stored → ℕ → ℕ → Tree
leaf_in None c a = missing
leaf_in (Some x) c a = leaf c a x.left x.right

abbrev pub inner_in : Option Stored → ℕ → ℕ → ℕ → (ℕ → Tree) → (ℕ → Tree) → Tree
inner_in None c a h left right = missing
inner_in (Some x) c a h left right = inner c a h x.left x.right (left x.left) (right x.right)

-- The tree that the node area holds from number c down, node by node, each child's number as its parent has it; `at` gives a number's node's place.
unfoldable pub tree_in : (ℕ → ℕ → ℕ → Option ℕ) → List ℕ → ℕ → ℕ → ℕ → Tree
tree_in at area zero zero a = no_page
tree_in at area zero (suc c) a = leaf_in (visit area (at (suc c) a 0)) (suc c) a
tree_in at area (suc h) zero a = no_page
tree_in at area (suc h) (suc c) a =
    inner_in (visit area (at (suc c) a (suc h))) (suc c) a (suc h) (λ (l : ℕ). tree_in at area h l a) (λ (r : ℕ). tree_in at area h r (a + 2 ^ h))

-- What the versions and leaves of line l are called in the node area, and where a version's nodes lie.
abbrev pub numbers_on : Model → ℕ → Numbers
numbers_on m l = record {
  code = number_in (history m l);
  leaf = leaf_number m l;
  second = λ v p. 0;
  place = λ v. node_place m (nth 0 (line_at m l).shown v);
}

-- Where update k's node of height h over page p lies, where there is such an update with such a node.
abbrev pub place_of_update : Model → ℕ → ℕ → ℕ → Option ℕ
place_of_update m k p h =
    let u = to_update m.tickets (update_at m k) in
    place_where (ltb 0 k && has_node u p h) (node_place m k (index u.f u.last 0 (root_height u.size) p h))

-- The same by the number c of its version: of the update that line c / 65536 shows as its version c % 65536.
unfoldable pub place_of_number : Model → ℕ → ℕ → ℕ → Option ℕ
place_of_number m c p h = place_of_update m (nth 0 (line_at m (c / 65536)).shown (c % 65536)) p h

-- What stands after the k-th version of a line.
pub record Snapshot : Type 0 where
  pub size : ℕ
  pub blob : List Page
  pub stamps : List ℕ
  pub tree : Tree

abbrev pub tree_at : Model → ℕ → ℕ → Tree
tree_at m l k = let us = updates (history m l) in tree_of us (numbers_on m l) (height_of us k) k 0

abbrev pub snapshot_at : Model → ℕ → ℕ → Snapshot
snapshot_at m l k =
    let h = history m l in
    record { size = (version_at h k).size; blob = blob_at h k; stamps = stamps_upto h k (version_at h k).size; tree = tree_at m l k }
