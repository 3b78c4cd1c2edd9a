-- The walk from a version's root down the halves, which READ, STAMP, VIEW and WEAVE make, over any store and areas.
use Rattle.std.specs.Prelude.{ℕ, ◌-◌, Bool, true, false, nat_lt, Option, None, Some}
use Rattle.tree.specs.Walk.{reach_by, leaf_of}
use Rattle.tree.specs.Contract.{root_in, height_in}
use Rattle.lines.specs.Lines.{pick}
use Rattle.register.specs.Register.{version_part}
use Rattle.versions.specs.Store.{Areas}
use Rattle.descent.specs.Places.{place_at}
use Rattle.tree.specs.declared.Leaf.{Leaf}

-- From the root of the version numbered c, of the span that its record keeps, to the node of height j over page p: its version's number; 0 past the root.
unfoldable pub reach_from : Areas → ℕ → ℕ → ℕ → ℕ → Option ℕ
reach_from a c span p j = pick (nat_lt p (root_in span)) (reach_by (place_at a.register) a.nodes j (height_in span - j) c p) (Some 0)

-- The walk from the root of the version numbered c to page p. Its end has the number of the leaf's version.
unfoldable pub find_page : Areas → ℕ → ℕ → Option Leaf
find_page a c p = leaf_of (place_at a.register) a.nodes p (reach_from a c (version_part a.register c).span p 0)

-- Its leaf's page number, where the walk ends at a leaf whose page lies within the page area, of so many pages.
abbrev pub number_within : ℕ → Option Leaf → Option ℕ
number_within pages None = None
number_within pages (Some y) = elim (nat_lt y.page pages) [ true ↦ Some y.page | false ↦ None ]

unfoldable pub page_number_of : ℕ → Areas → ℕ → ℕ → Option ℕ
page_number_of pages a c p = number_within pages (find_page a c p)

abbrev pub is_lost : Option ℕ → Bool
is_lost None = true
is_lost (Some n) = false

abbrev pub or_zero : Option ℕ → ℕ
or_zero None = 0
or_zero (Some n) = n
