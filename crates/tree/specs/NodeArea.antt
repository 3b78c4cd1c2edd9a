-- The node area: place q is the two 32-bit numbers at 2q and 2q + 1; all ones in both mean that no node is stored there.
use Rattle.std.specs.Prelude.{ℕ, ◌+◌, ◌*◌, Bool, true, false, ◌&&◌, List, length, ◌==◌, nat_lt, slice_index_or, slice_set, Option, None, Some}
use Rattle.tree.specs.declared.Stored.{Stored}

-- A 32-bit number of all ones.
abbrev pub all_ones : ℕ
all_ones = 4294967295

-- Place q lies within an area of so many numbers.
abbrev pub has_place : ℕ → ℕ → Bool
has_place len q = nat_lt (2 * q + 1) len

-- A stored node, by its two numbers.
abbrev pub stored : ℕ → ℕ → Option Stored
stored l r = Some (record { left = l; right = r })

-- The two numbers, unless both are all ones.
abbrev pub unless_ones : Bool → ℕ → ℕ → Option Stored
unless_ones true l r = None
unless_ones false l r = stored l r

abbrev pub within : Bool → Option Stored → Option Stored
within true x = x
within false x = None

-- What stands at place q: a node's two numbers, or nothing, also past the area's end.
unfoldable pub node_at : List ℕ → ℕ → Option Stored
node_at area q =
    let l = slice_index_or area (2 * q) 0 in
    let r = slice_index_or area (2 * q + 1) 0 in
    within (has_place (length area) q) (unless_ones (l == all_ones && r == all_ones) l r)

-- The area with two numbers stored at place q; past its end nothing changes.
abbrev pub set_within : Bool → List ℕ → ℕ → ℕ → ℕ → List ℕ
set_within true area q l r = slice_set (slice_set area (2 * q) l) (2 * q + 1) r
set_within false area q l r = area

unfoldable pub with_node : List ℕ → ℕ → ℕ → ℕ → List ℕ
with_node area q l r = set_within (has_place (length area) q) area q l r
