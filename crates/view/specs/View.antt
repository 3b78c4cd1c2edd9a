-- VIEW line, v, page: the part that it hands out, over any store and areas.
use Rattle.std.specs.Prelude.{List, [], ℕ, ◌*◌, Result}
use Rattle.pages.specs.Pages.{part}
use Rattle.table.specs.Table.{unless}
use Rattle.versions.specs.declared.Store.{Store}
use Rattle.versions.specs.Store.{Areas, number_on}
use Rattle.walk.specs.FindPage.{page_number_of, or_zero}
use Rattle.stamp.specs.Stamp.{stamp_number}
use Rattle.table.specs.Refused.{answered}

-- VIEW refuses as STAMP does, and then is the empty part; else the S bytes of the page, as a part of the page area.
abbrev pub view_part : Store → Areas → ℕ → ℕ → ℕ → List ℕ
view_part s a l v p =
    unless (stamp_number s a l v p) [] (part a.pages (s.size * or_zero (page_number_of s.pages a (number_on s l v) p)) s.size)

-- Where in the page area VIEW's part begins.
abbrev pub view_at : Store → Areas → ℕ → ℕ → ℕ → Result ℕ ℕ
view_at s a l v p = answered (stamp_number s a l v p) (s.size * or_zero (page_number_of s.pages a (number_on s l v) p))
