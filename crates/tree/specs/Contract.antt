-- What the code's functions ask and give, in the terms of Tree and Place.
use Rattle.std.specs.Prelude.{◌≡◌, ℕ, ◌+◌, ◌*◌, ◌^◌, ◌<◌, ◌≤◌, true, false, ◌&&◌, ◌==◌, nat_le, nat_lt}
use Rattle.tree.specs.Tree.{Node, node, count, root_height, node_count}
-- The span of the root for a size in pages; its definition stands with the table of root spans.
unfoldable pub use Rattle.spans.specs.Span.{root_span}
pub use Rattle.spans.specs.Span.{zero_unless}

-- The root's height for a size in pages, or 0 for a size that no tree has.
unfoldable pub height_for : ℕ → ℕ
height_for s = zero_unless (nat_le s 4096) (root_height s)

-- The root's span that a word holds: the word itself where it is the root's span of so many pages, else 4,096, that of the largest blob. No call leaves a word of the second kind.
unfoldable pub root_in : ℕ → ℕ
root_in s = elim (nat_lt 0 s && root_span s == s) [ true ↦ s | false ↦ 4096 ]

-- The height of that root.
unfoldable pub height_in : ℕ → ℕ
height_in s = root_height (root_in s)

-- The node count of (f, n, size after), or 0 outside the limits and where the update runs past the size.
unfoldable pub nodes_for : ℕ → ℕ → ℕ → ℕ
nodes_for f n s = zero_unless (nat_lt 0 n && nat_le n 64 && nat_lt 0 s && nat_le s 4096 && nat_le (f + n) s) (node_count f n s)

-- The pages f .. l are one at least, and lie in the root, which has a height that leaves room for sums.
pub record Pages (f l height : ℕ) : Type 0 where
  pub order : f ≤ l
  pub inside : l < 2 ^ height
  pub low : height ≤ 32

pub record Counted (f l height r : ℕ) : Type 0 where
  pub exact : r ≡ count f l height
  pub small : r < 2 * 2 ^ height

abbrev pub first_of : Node → ℕ
first_of (node a h) = a

abbrev pub span_of : Node → ℕ
span_of (node a h) = 2 ^ h

-- The first page and the span of a node.
pub record Names (x : Node) (b s : ℕ) : Type 0 where
  pub first : b ≡ first_of x
  pub spans : s ≡ span_of x
