-- The scope's twelve proved cases: one table, and one theorem that the definitions yield all of it.

use Rattle.std.specs.Prelude.{◌≡◌, ℕ, ◌+◌, ◌-◌, ◌^◌, Bool, true, ◌&&◌, List, [], ◌∷◌, length, ◌==◌, refl}
use Rattle.tree.specs.Tree.{Update, node_count, root_height, nodes, newest, update, meets, count, height_from}

-- (f, n, size after) has so many nodes; version v's inner node at first page a and span 2 ^ suc h has these children
pub data Case : Type 0 where
  node_count_of : ℕ → ℕ → ℕ → ℕ → Case
  children_of : ℕ → ℕ → ℕ → ℕ → ℕ → Case

-- Figure 1 of source document 001: pages 0-3, then 1-2, then an append of one.
unfoldable pub figure1 : List Update
figure1 = record { f = 0; last = 3; size = 4 } ∷ record { f = 1; last = 2; size = 4 } ∷ record { f = 4; last = 4; size = 5 } ∷ []

unfoldable pub holds : Case → Bool
unfolding node_count root_height nodes newest update meets count height_from figure1
holds (node_count_of f n s c) = node_count f n s == c && length (nodes f (f + n - 1) 0 (root_height s)) == c
holds (children_of v a h l r) = newest figure1 v a (2 ^ h) == l && newest figure1 v (a + 2 ^ h) (2 ^ h) == r

unfoldable pub table : List Case
table =
    node_count_of 0 4 4 7 ∷ node_count_of 1 2 4 5 ∷ node_count_of 4 1 5 4 ∷ node_count_of 0 1 1 1 ∷ node_count_of 1 1 2 2
    ∷ node_count_of 31 2 64 13 ∷ node_count_of 0 64 64 127 ∷ node_count_of 4095 1 4096 13
    ∷ children_of 3 0 2 2 3 ∷ children_of 3 4 1 3 0 ∷ children_of 2 0 0 1 2 ∷ children_of 2 2 0 2 1 ∷ []

unfoldable pub every : List Case → Bool
unfolding holds
every [] = true
every (c ∷ cs) = holds c && every cs

pub twelve-cases : every table ≡ true
unfolding every table
twelve-cases = refl
