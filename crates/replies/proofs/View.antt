-- The part that VIEW's reply names is the part that VIEW hands out. Assumes nothing.
use mathlib.Core.Path.{◌≡◌, refl}
use mathlib.Core.List.{List, []}
use Prim.Native.Nat.{ℕ, zero, suc, ◌*◌}
use native.Mathlib.Omega.{arith}
use borrow.Author.Tests.{le-leb}
use lib.ListN.{length}
use Rattle.pages.specs.Pages.{part}
use Rattle.table.specs.Table.{unless}
use Rattle.versions.specs.Store.{Areas, number_on}
use Rattle.walk.specs.FindPage.{or_zero, page_number_of}
use Rattle.stamp.specs.Stamp.{stamp_number}
use Rattle.view.specs.View.{view_part, view_at}
use Rattle.table.specs.Refused.{answered}
use Rattle.versions.specs.declared.Store.{Store}
use Rattle.replies.specs.Replies.{view_reply}

-- No bytes from the beginning on are the empty part.
no_part : (l : List ℕ) → part l 0 0 ≡ []
unfolding part
no_part l = rw (le-leb 0 (length l) (omega arith))

-- By the table's number k, for a part of n bytes at index at.
by_number : (l : List ℕ) (k at n : ℕ) → part l (view_reply n (answered k at)).begin (view_reply n (answered k at)).length ≡ unless k [] (part l at n)
unfolding unless
by_number l zero at n = refl
by_number l (suc k) at n = no_part l

pub view-part : (s : Store) (a : Areas) (l v p : ℕ)
    → part a.pages (view_reply s.size (view_at s a l v p)).begin (view_reply s.size (view_at s a l v p)).length ≡ view_part s a l v p
view-part s a l v p = by_number a.pages (stamp_number s a l v p) (s.size * or_zero (page_number_of s.pages a (number_on s l v) p)) s.size
