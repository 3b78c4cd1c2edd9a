-- Where a version's node lies, by the part that its record has.

use Rattle.std.specs.Prelude.{ℕ, ◌+◌, ◌-◌, ◌%◌, ◌^◌, Bool, ◌&&◌, List, ◌==◌, nat_le, nat_lt, Option, None, Some}
use Rattle.tree.specs.Tree.{meets}
use Rattle.tree.specs.Place.{first, halvings}
use Rattle.tree.specs.Walk.{place_where}
use Rattle.lines.specs.Lines.{pick}
use Rattle.register.specs.Register.{version_part}
use Rattle.register.specs.declared.Record.{Record}
use Rattle.register.specs.declared.Part.{Part}

-- A number, or where there is none the largest of 64 bits, which lies past any area and is no version's.
abbrev pub or_most : Option ℕ → ℕ
or_most None = 2 ^ 64 - 1
or_most (Some n) = n

-- Back: none for the largest number.
abbrev pub unless_most : ℕ → Option ℕ
unless_most n = pick (n == 2 ^ 64 - 1) None (Some n)

-- The first page of the node of height h over page p.
abbrev pub first_over : ℕ → ℕ → ℕ
first_over p h = first p h

-- A version may have this number: 0 is none, and the largest of 64 bits says that a node is not there.
abbrev pub is_number : ℕ → Bool
is_number c = nat_lt 0 c && nat_lt c (2 ^ 64 - 1)

-- An update has a node of height h over page p, by what its part says: of no larger span than its root, and meeting its pages.
unfoldable pub has_node_by : Part → ℕ → ℕ → Bool
has_node_by q p h = nat_le (2 ^ h) q.span && meets q.f.0 q.last.0 (first p h) (2 ^ h)

-- Where it lies, in 64 bits: its first place and its root's height, less the node's, and as many more as its first page has halvings above those of the update's.
abbrev pub place_by_part : Part → ℕ → ℕ → ℕ
place_by_part q p h = (q.top + (2 ^ 64 - h) + (halvings (first p h) - q.past)) % 2 ^ 64

-- The place of the node of height h over page p of the version numbered c, with the part q that its record should have: where it has, and makes such a node.
unfoldable pub place_in : Part → ℕ → ℕ → ℕ → Option ℕ
place_in q c p h = place_where (is_number c && q.name == c && has_node_by q p h) (place_by_part q p h)

abbrev pub place_at : List Record → ℕ → ℕ → ℕ → Option ℕ
place_at rs c p h = place_in (version_part rs c) c p h

-- The place of the leaf over page p of the version numbered c, with the part q that its record should have: no blob has a page past 4,095.
abbrev pub leaf_place : Part → ℕ → ℕ → Option ℕ
leaf_place q c p = pick (nat_lt p 4096) (place_in q c p 0) None
