-- Where a node stands in its version's weaving order, by descent from the root with counts, and which node stands at an index.
use Rattle.std.specs.Prelude.{ℕ, zero, suc, ◌+◌, ◌-◌, ◌*◌, ◌/◌, ◌%◌, ◌^◌, min, true, false, count_ones, nat_lt}
use Rattle.tree.specs.Tree.{Node, node, meets, count}

-- The nodes at and below (a, h) that meet f .. l: the count for the part of f .. l inside, its pages numbered from a.
unfoldable pub below : ℕ → ℕ → ℕ → ℕ → ℕ
below f l a h = elim (meets f l a (2 ^ h)) [ true ↦ count (f - a) (min (l - a) (2 ^ h - 1)) h | false ↦ 0 ]

-- The node at an index of the weaving order of (a, h): itself, or one of the left half, or, past those, one of the right half.
unfoldable pub kth : ℕ → ℕ → ℕ → ℕ → ℕ → Node
kth f l a zero i = node a 0
kth f l a (suc h) zero = node a (suc h)
kth f l a (suc h) (suc i) = elim (nat_lt i (below f l a h)) [ true ↦ kth f l a h i | false ↦ kth f l (a + 2 ^ h) h (i - below f l a h) ]

-- The first page of the node of height h over page p.
unfoldable pub first : ℕ → ℕ → ℕ
first p h = p / 2 ^ h * 2 ^ h

-- The index, in the weaving order of (a, h), of the node of height j over page p.
unfoldable pub index : ℕ → ℕ → ℕ → ℕ → ℕ → ℕ → ℕ
index f l a zero p j = 0
index f l a (suc h) p j =
    elim (nat_lt h j) [
      | true ↦ 0
      | false ↦ elim (nat_lt p (a + 2 ^ h)) [ true ↦ suc (index f l a h p j) | false ↦ suc (below f l a h + index f l (a + 2 ^ h) h p j) ]
    ]

-- x + x / 2 + x / 4 + ..: twice x, less its one bits.
unfoldable pub halvings : ℕ → ℕ
halvings x = 2 * x - count_ones x

-- The k-th node of an update from page f on, in a tree of a height, root first: over page f down to its leaf, then by its number in the whole tree, to
-- which `past`, the halvings of f, leads. The sum is one of 64 bits, so that there is a node for any numbers.
unfoldable pub node_numbered : ℕ → ℕ → ℕ → ℕ → Node
node_numbered f height past k =
    elim (nat_lt height k) [
      | true ↦ kth 0 (2 ^ height - 1) 0 height ((k + past) % 2 ^ 64)
      | false ↦ node (first f (height - k)) (height - k)
    ]
