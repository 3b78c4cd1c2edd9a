-- Worst counts, computed: every bound of r and n from both sides, and that the write has to begin at page r / 2 - 1.

use Rattle.std.specs.Prelude.{◌≡◌, refl}
use Rattle.tree.specs.Tree.{count, height_from, root_height, node_count}
use Rattle.tree.specs.Worst.{asked, most_up_to, worst, worst_for}

-- r a power of two from 2 to 4,096
blobs :
    (worst_for 0 0 ≡ 0)
    × (worst_for 0 1 ≡ 0)
    × (worst_for 1 0 ≡ 0)
    × (worst_for 1 1 ≡ 0)
    × (worst_for 2 1 ≡ 2)
    × (worst_for 3 1 ≡ 0)
    × (worst_for 4 1 ≡ 3)
    × (worst_for 6 3 ≡ 0)
    × (worst_for 2048 64 ≡ 142)
    × (worst_for 4095 64 ≡ 0)
    × (worst_for 4096 64 ≡ 144)
    × (worst_for 4097 64 ≡ 0)
    × (worst_for 8192 64 ≡ 0)
unfolding worst_for worst asked most_up_to root_height height_from
blobs = (refl, refl, refl, refl, refl, refl, refl, refl, refl, refl, refl, refl, refl)

-- n from 1 to the lesser of 64 and r / 2
writes :
    (worst_for 64 0 ≡ 0)
    × (worst_for 64 1 ≡ 7)
    × (worst_for 64 2 ≡ 13)
    × (worst_for 64 32 ≡ 69)
    × (worst_for 64 33 ≡ 0)
    × (worst_for 64 64 ≡ 0)
    × (worst_for 128 64 ≡ 134)
    × (worst_for 128 65 ≡ 0)
    × (worst_for 4096 1 ≡ 13)
    × (worst_for 4096 63 ≡ 142)
    × (worst_for 4096 65 ≡ 0)
    × (worst_for 4 2 ≡ 5)
    × (worst_for 4 3 ≡ 0)
    × (worst_for 2 2 ≡ 0)
unfolding worst_for worst asked most_up_to root_height height_from
writes = (refl, refl, refl, refl, refl, refl, refl, refl, refl, refl, refl, refl, refl, refl)

-- in 4,096 pages, 64 of them from the first on, from those around the middle, and the last
begun :
    (node_count 0 64 4096 ≡ 133)
    × (node_count 2046 64 4096 ≡ 143)
    × (node_count 2047 64 4096 ≡ 144)
    × (node_count 2048 64 4096 ≡ 133)
    × (node_count 4032 64 4096 ≡ 133)
unfolding node_count count root_height height_from
begun = (refl, refl, refl, refl, refl)
