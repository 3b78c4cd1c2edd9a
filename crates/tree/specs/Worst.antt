-- The costliest update, Slip 14 of document 02: the worst node count of a write of n pages into a blob of exactly r pages that stays inside those pages.
use Rattle.std.specs.Prelude.{◌≡◌, ℕ, zero, suc, ◌+◌, ◌-◌, ◌/◌, ◌^◌, ◌<◌, ◌≤◌, min, Bool, true, ◌&&◌, ◌==◌, nat_le, nat_lt}
use Rattle.tree.specs.Tree.{root_height, node_count}
use Rattle.tree.specs.Contract.{zero_unless}

-- What is asked for: r is a power of two from 2 to 4,096, and n is from 1 to the lesser of 64 and r / 2.
unfoldable pub asked : ℕ → ℕ → Bool
asked r n = nat_le 2 r && nat_le r 4096 && 2 ^ root_height r == r && nat_lt 0 n && nat_le n (min 64 (r / 2))

-- floor((n + q - 2) / q) + 1: of the nodes of span q, the most that n pages meet.
abbrev pub most_of_span : ℕ → ℕ → ℕ
most_of_span n q = (n + q - 2) / q + 1

-- The sum of these over q = 1, 2 .. 2 ^ h.
unfoldable pub most_up_to : ℕ → ℕ → ℕ
most_up_to n zero = most_of_span n (2 ^ 0)
most_up_to n (suc h) = most_up_to n h + most_of_span n (2 ^ suc h)

-- The worst count by the request's formula: 1 plus the sum over q = 1, 2 .. r / 2.
unfoldable pub worst : ℕ → ℕ → ℕ
worst r n = 1 + most_up_to n (root_height (r / 2))

-- The worst count, or 0 for any other r and n.
unfoldable pub worst_for : ℕ → ℕ → ℕ
worst_for r n = zero_unless (asked r n) (worst r n)

-- The write from page r / 2 - 1 on stays inside and makes so many nodes, and no write inside makes more. Neither does an update of fewer pages, or one that leaves a
-- smaller blob, as while it grows.
pub record Worst (r n : ℕ) : Type 0 where
  pub inside : r / 2 - 1 + n ≤ r
  pub reached : node_count (r / 2 - 1) n r ≡ worst r n
  pub most : (f : ℕ) → f + n ≤ r → node_count f n r ≤ worst r n
  pub growing : (f m s : ℕ) → 0 < m → m ≤ n → f + m ≤ s → s ≤ r → node_count f m s ≤ worst r n

-- So for every r and n that it is asked for.
abbrev pub WorstCases : Type 0
WorstCases = (r n : ℕ) → asked r n ≡ true → Worst r n
