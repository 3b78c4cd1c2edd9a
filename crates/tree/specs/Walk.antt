-- The walk from a version's root down the halves to a page, and the page number that the updates applied in turn leave there.
use Rattle.std.specs.Prelude.{◌≡◌, ℕ, zero, suc, ◌+◌, ◌^◌, ◌<◌, ◌≤◌, max, Bool, true, false, ◌&&◌, List, length, nat_le, nat_lt, slice_index_or, Option, None, Some}
use Rattle.tree.specs.Tree.{Update, Node, node, meets, root_height, weaving, update, newest, size_at, height_of}
use Rattle.tree.specs.Place.{first, index}
use Rattle.tree.specs.NodeArea.{node_at, stored}
use Rattle.tree.specs.declared.Stored.{Stored}
use Rattle.tree.specs.declared.Leaf.{Leaf}

-- Version v + 1 is an accepted update of version v.
pub record Accepted (us : List Update) (v : ℕ) : Type 0 where
  pub some-pages : (update us (suc v)).f ≤ (update us (suc v)).last
  pub starts : (update us (suc v)).f ≤ size_at us v
  pub grows : (update us (suc v)).size ≡ max (size_at us v) (suc (update us (suc v)).last)

-- Of the node of height h over page p, in version k's tree: its version, or 0.
abbrev pub version_over : List Update → ℕ → ℕ → ℕ → ℕ
version_over us k p h = newest us k (first p h) (2 ^ h)

-- What the versions of a list of updates are called in the node area: the number by which a parent names a version, a leaf's two numbers by version
-- and page, and the place of a version's node by its index in weaving order. The tree asks nothing of them.
pub record Numbers : Type 0 where
  pub code : ℕ → ℕ
  pub leaf : ℕ → ℕ → ℕ
  pub second : ℕ → ℕ → ℕ
  pub place : ℕ → ℕ → ℕ

module _ (us : List Update) (N : Numbers) where
  -- The two numbers of a node of version v: its children's versions, or a leaf's page number and 0.
  abbrev pub left_by : ℕ → Node → ℕ
  left_by v (node a zero) = N.leaf v a
  left_by v (node a (suc h)) = N.code (newest us v a (2 ^ h))

  abbrev pub right_by : ℕ → Node → ℕ
  right_by v (node a zero) = N.second v a
  right_by v (node a (suc h)) = N.code (newest us v (a + 2 ^ h) (2 ^ h))

  -- The place of version v's node of height h over page p, by the node's index in weaving order.
  unfoldable pub place_by : ℕ → ℕ → ℕ → ℕ
  place_by v p h = N.place v (index (update us v).f (update us v).last 0 (height_of us v) p h)

  -- The area holds all of version v's nodes, each at its place.
  abbrev pub WovenBy : List ℕ → ℕ → Type 0
  WovenBy area v =
      (i : ℕ) → i < length (weaving (update us v))
      → node_at area (N.place v i) ≡ stored (left_by v (slice_index_or (weaving (update us v)) i (node 0 0))) (right_by v (slice_index_or (weaving (update us v)) i (node 0 0)))

-- Version v's tree has a node of height h over page p.
unfoldable pub has_node : Update → ℕ → ℕ → Bool
has_node u p h = nat_le h (root_height u.size) && nat_lt p (2 ^ root_height u.size) && meets u.f u.last (first p h) (2 ^ h)

-- The node at a place; there is none where a version has no such node.
abbrev pub visit : List ℕ → Option ℕ → Option Stored
visit area None = None
visit area (Some q) = node_at area q

-- From an inner node on into the half that the page lies in (true: the left).
abbrev pub goes : Option Stored → Bool → (ℕ → Option Leaf) → Option Leaf
goes None b k = None
goes (Some x) true k = k x.left
goes (Some x) false k = k x.right

-- A leaf, by its version's number and its page number.
abbrev pub leaf_at : ℕ → ℕ → Option Leaf
leaf_at c n = Some (record { version = c; page = n })

-- At a leaf: its version's number and its page number.
abbrev pub ends : ℕ → Option Stored → Option Leaf
ends c None = None
ends c (Some x) = leaf_at c x.left

-- From the node numbered c of height h over page p down to p's leaf; lost where a node is not stored, or a child's number has no such node.
-- `at` gives the place of a number's node of a height over a page.
unfoldable pub walk_by : (ℕ → ℕ → ℕ → Option ℕ) → List ℕ → ℕ → ℕ → ℕ → Option Leaf
walk_by at area zero c p = ends c (visit area (at c p 0))
walk_by at area (suc h) c p = goes (visit area (at c p (suc h))) (nat_lt p (first p (suc h) + 2 ^ h)) (λ (d : ℕ). walk_by at area h d p)

-- From an inner node on into the half that the page lies in (true: the left); nowhere where the node is not stored.
abbrev pub turns : Option Stored → Bool → (ℕ → Option ℕ) → Option ℕ
turns None b k = None
turns (Some x) true k = k x.left
turns (Some x) false k = k x.right

-- The number of the node of height j over page p that n levels above is numbered c; 0, no version, has no node below it. None where a node on the
-- way is not stored.
unfoldable pub reach_by : (ℕ → ℕ → ℕ → Option ℕ) → List ℕ → ℕ → ℕ → ℕ → ℕ → Option ℕ
reach_by at area j zero c p = Some c
reach_by at area j (suc n) zero p = Some 0
reach_by at area j (suc n) (suc c) p =
    turns (visit area (at (suc c) p (suc (n + j)))) (nat_lt p (first p (suc (n + j)) + 2 ^ (n + j))) (λ (d : ℕ). reach_by at area j n d p)

-- At the leaf that a number reached names.
abbrev pub leaf_of : (ℕ → ℕ → ℕ → Option ℕ) → List ℕ → ℕ → Option ℕ → Option Leaf
leaf_of at area p None = None
leaf_of at area p (Some c) = ends c (visit area (at c p 0))

-- The node of height h over page p that version k's root leads to stands in the area with its two numbers. This is all that a walk asks.
abbrev pub Stands : List Update → Numbers → (ℕ → ℕ → ℕ → Option ℕ) → List ℕ → ℕ → ℕ → ℕ → Type 0
Stands us N at area k p h =
    visit area (at (N.code (version_over us k p h)) p h)
    ≡ stored (left_by us N (version_over us k p h) (node (first p h) h)) (right_by us N (version_over us k p h) (node (first p h) h))

-- The update covers page p.
unfoldable pub covers : Update → ℕ → Bool
covers u p = nat_le u.f p && nat_le p u.last

-- The page number that page p has once updates 1 .. k are applied in turn.
unfoldable pub in_turn_by : List Update → (ℕ → ℕ → ℕ) → ℕ → ℕ → ℕ
in_turn_by us leaf zero p = 0
in_turn_by us leaf (suc k) p = elim (covers (update us (suc k)) p) [ true ↦ leaf (suc k) p | false ↦ in_turn_by us leaf k p ]

-- The version of the leaf over page p in version v's tree: the newest up to v whose update covers the page.
abbrev pub leaf_version : List Update → ℕ → ℕ → ℕ
leaf_version us v p = newest us v p 1

-- The place of a version's node, where versions 1 .. length us are there and their first places are given.
abbrev pub place_where : Bool → ℕ → Option ℕ
place_where true q = Some q
place_where false q = None

unfoldable pub place_of_version : List Update → (ℕ → ℕ) → ℕ → ℕ → ℕ → Option ℕ
place_of_version us base v p h =
    place_where (nat_lt 0 v && nat_le v (length us) && has_node (update us v) p h)
    (base v + index (update us v).f (update us v).last 0 (height_of us v) p h)
