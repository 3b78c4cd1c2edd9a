-- The tree of a version: the nodes that it makes, in weaving order, their number, and the versions that a node holds for its children.
-- Document 01, "Tree"; the segment tree of source document 001. A node is named by its first page and its height h; its span is 2 ^ h pages.
use Rattle.std.specs.Prelude.{ℕ, zero, suc, ◌+◌, ◌-◌, ◌/◌, ◌^◌, Bool, true, false, ◌&&◌, List, [], ◌∷◌, ◌++◌, nat_le, nat_lt, slice_index_or}
-- The height of the root for a size in pages; its definition stands with the table of root spans.
unfoldable pub use Rattle.spans.specs.Span.{height_from, root_height}

-- An update ("update" in 001): its pages f .. last, and the size in pages of the blob after it ("snapshot size").
pub record Update : Type 0 where
  pub f : ℕ
  pub last : ℕ
  pub size : ℕ

-- A node of one version: first page and height.
pub data Node : Type 0 where
  node : ℕ → ℕ → Node

-- Some page of f .. l lies among the s pages from a on.
unfoldable pub meets : ℕ → ℕ → ℕ → ℕ → Bool
meets f l a s = nat_lt f (a + s) && nat_le a l

-- The nodes at and below (a, h) that meet f .. l, in weaving order: the node, all of its left half, all of its right half.
unfoldable pub nodes : ℕ → ℕ → ℕ → ℕ → List Node
nodes f l a zero = elim (meets f l a 1) [ true ↦ node a 0 ∷ [] | false ↦ [] ]
nodes f l a (suc h) = elim (meets f l a (2 ^ suc h)) [ true ↦ node a (suc h) ∷ (nodes f l a h ++ nodes f l (a + 2 ^ h) h) | false ↦ [] ]

-- The nodes that a version makes, in weaving order: those within its root that meet its update.
abbrev pub weaving : Update → List Node
weaving u = nodes u.f u.last 0 (root_height u.size)

-- The sum, over q = 1, 2, 4 .. 2 ^ h, of floor(l / q) - floor(f / q) + 1.
unfoldable pub count : ℕ → ℕ → ℕ → ℕ
count f l zero = l / 1 - f / 1 + 1
count f l (suc h) = count f l h + (l / 2 ^ suc h - f / 2 ^ suc h + 1)

-- The node count of document 01 for (f, n, size after), n at least 1.
unfoldable pub node_count : ℕ → ℕ → ℕ → ℕ
unfolding count root_height
node_count f n s = count f (f + n - 1) (root_height s)

-- The node count of an update.
abbrev pub count_of : Update → ℕ
count_of u = count u.f u.last (root_height u.size)

-- An element by its number, which counts from 1; there is none at 0.
abbrev pub nth : {A : Type 0} → A → List A → ℕ → A
nth d xs zero = d
nth d xs (suc i) = slice_index_or xs i d

abbrev pub no_update : Update
no_update = record { f = 0; last = 0; size = 0 }

-- The update of version v, the updates being in the order of their versions.
unfoldable pub update : List Update → ℕ → Update
update us v = nth no_update us v

-- The newest version up to v whose update meets the s pages from a on, or 0. Of an inner node of version v this is the rule for a child: v itself
-- where the child meets v's update, else the newest lower version whose update meets it, stored or not, else 0 (no page there).
unfoldable pub newest : List Update → ℕ → ℕ → ℕ → ℕ
newest us zero a s = 0
newest us (suc v) a s = elim (meets (update us (suc v)).f (update us (suc v)).last a s) [ true ↦ suc v | false ↦ newest us v a s ]

-- The size in pages of version v; version 0 is empty and has no tree.
unfoldable pub size_at : List Update → ℕ → ℕ
size_at us v = (update us v).size

-- The height of version v's root.
abbrev pub height_of : List Update → ℕ → ℕ
height_of us v = root_height (update us v).size
