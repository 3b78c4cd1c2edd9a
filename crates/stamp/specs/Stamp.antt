-- STAMP line, v, page: what it answers, over any store and areas.
use Rattle.std.specs.Prelude.{unwrap_or, ◌&&◌, List, [], ◌∷◌, ℕ, zero, suc, ◌-◌, ◌*◌, ltb, Option, Some, None, Result}
use Rattle.text.specs.Text.{pick, same}
use Rattle.pages.specs.Pages.{part}
use Rattle.lines.specs.Lines.{version_of}
use Rattle.register.specs.declared.Part.{Part}
use Rattle.register.specs.Register.{version_part}
use Rattle.table.specs.Table.{◌≤?◌, ◌and◌, ◌or◌, test, ◌gives◌, every_call, first_refusal, page_rows}
use Rattle.versions.specs.declared.Store.{Store}
use Rattle.versions.specs.Store.{Areas, areas_differ, lines_in, line_in, number_on, part_on}
use Rattle.versions.specs.Size.{is_there, not_there, pages_by, pages_in}
use Rattle.walk.specs.FindPage.{find_page, number_within, page_number_of, is_lost, or_zero}
use Rattle.tree.specs.declared.Leaf.{Leaf}
use Rattle.tree.specs.Walk.{leaf_at}
use Rattle.table.specs.Refused.{answered}
use Rattle.tree.specs.declared.Version.{Version}

unfoldable pub stamp_number : Store → Areas → ℕ → ℕ → ℕ → ℕ
stamp_number s a l v p =
    let c = number_on s l v in
    let q = part_on s a l v in
    first_refusal
    (every_call
    (areas_differ s a)
    (page_rows (is_there q c) l (lines_in s) v (line_in s l).published.0 (pages_in s a l v) p)
    (not_there q c or test (is_lost (page_number_of s.pages a c p))))

-- The refusal of STAMP and of VIEW past the rows up to 16, in a page area of so many pages: by the part q of version v, numbered c, and where the walk ends.
abbrev pub page_refusal : ℕ → Part → ℕ → ℕ → ℕ → Option Leaf → ℕ
page_refusal pages q c v p x =
    first_refusal
    ((is_there q c and pages_by v q ≤? p gives 17) ∷ (not_there q c or test (is_lost (number_within pages x)) gives 19) ∷ [])

-- The leaf that a walk ends at, which is read where no row refuses.
abbrev pub leaf_found : Option Leaf → Leaf
leaf_found x = unwrap_or x (record { version = 0; page = 0 })

-- The leaf of page p of version v, numbered c, past the rows up to 16.
unfoldable pub page_found : Store → Areas → ℕ → ℕ → ℕ → Result Leaf ℕ
page_found s a c v p = let x = find_page a c p in answered (page_refusal s.pages (version_part a.register c) c v p x) (leaf_found x)

-- The leaf of page p of version v of line l, which STAMP and VIEW begin with.
unfoldable pub leaf_out : Store → Areas → ℕ → ℕ → ℕ → Result Leaf ℕ
leaf_out s a l v p = answered (stamp_number s a l v p) (leaf_found (find_page a (number_on s l v) p))

-- The version of the leaf that a walk ends at.
abbrev pub version_found : Option Leaf → ℕ
version_found None = 0
version_found (Some y) = version_of y.version

-- Where a walk ends, if the table's number is 0; else lost.
abbrev pub found_by : ℕ → Option Leaf → Option Leaf
found_by zero x = x
found_by (suc k) x = None

-- The leaf of page p as of version v of line l, as VIEW finds it; lost where the version's record is not there, the version has no such page, or the walk is lost.
unfoldable pub leaf_as_of : Store → Areas → ℕ → ℕ → ℕ → Option Leaf
leaf_as_of s a l v p =
    let c = number_on s l v in
    let x = find_page a c p in
    found_by (page_refusal s.pages (part_on s a l v) c v p x) x

-- That leaf where its version is below w and its page has the bytes of page n; else lost.
abbrev pub same_below : List ℕ → ℕ → ℕ → ℕ → Option Leaf → Option Leaf
same_below pages size w n None = None
same_below pages size w n (Some y) =
    pick (ltb (version_of y.version) w && same (part pages (size * y.page) size) (part pages (size * n) size)) (leaf_at y.version y.page) None

-- On from a leaf, by its version and its page's number; w where there is none.
abbrev pub on_from : ℕ → Option Leaf → (ℕ → ℕ → ℕ) → ℕ
on_from w None next = w
on_from w (Some y) next = next (version_of y.version) y.page

-- The version since which page p has had the bytes of page n, which version w has there: while the page as of version w - 1 has them too, on from its leaf. A lower walk
-- that is lost ends this as a page that is not there does. Each step goes to a lower version, so that w steps are enough.
unfoldable pub since_by : Store → Areas → ℕ → ℕ → ℕ → ℕ → ℕ → ℕ
since_by s a l p zero w n = w
since_by s a l p (suc i) w n = on_from w (same_below a.pages s.size w n (leaf_as_of s a l (w - 1) p)) (λ x m. since_by s a l p i x m)

abbrev pub since : Store → Areas → ℕ → ℕ → ℕ → ℕ → ℕ
since s a l p w n = since_by s a l p w w n

-- The stamp, by where the walk from version v ends.
abbrev pub stamp_by : Store → Areas → ℕ → ℕ → Option Leaf → ℕ
stamp_by s a l p x = since s a l p (version_found x) (or_zero (number_within s.pages x))

abbrev pub stamped : ℕ → ℕ → Result Version ℕ
stamped k v = answered k (record { 0 = v })

abbrev pub stamp_out : Store → Areas → ℕ → ℕ → ℕ → Result Version ℕ
stamp_out s a l v p = stamped (stamp_number s a l v p) (stamp_by s a l p (find_page a (number_on s l v) p))
