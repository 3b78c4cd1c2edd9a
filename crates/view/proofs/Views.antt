-- VIEW by the leaf that it begins with. Assumes nothing.
use mathlib.Core.Path.{◌≡◌, refl, ap}
use mathlib.Core.List.{List, []}
use Prim.Native.Nat.{ℕ, zero, suc, ◌*◌, ◌^◌, ◌<◌}
use native.Mathlib.Nat.{le_of_lt, mul-le-mul_left}
use native.Mathlib.Omega.{arith}
use lib.ListN.{length}
use Rattle.std.proofs.Common.{Result, Ok, Err}
use Rattle.pages.specs.Pages.{part}
use Rattle.table.specs.Refused.{answered}
use Rattle.table.specs.Table.{unless, page_rows}
use Rattle.table.proofs.Table.{passed, unless-0}
use Rattle.tree.specs.declared.Leaf.{Leaf}
use Rattle.versions.specs.declared.Store.{Store}
use Rattle.versions.specs.Store.{Areas, number_on}
use Rattle.walk.specs.FindPage.{find_page, page_number_of}
use Rattle.walk.proofs.Ends.{found_inside}
use Rattle.stamp.specs.Stamp.{stamp_number, leaf_out}
use Rattle.stamp.proofs.Pages.{on_leaf, by-leaf, number-refused, number-passed, number-found, number-page}
use Rattle.view.specs.View.{view_part, view_at}

-- The part of the leaf that is found; the empty one where the leaf is refused.
abbrev pub leaf_part : List ℕ → ℕ → Result Leaf ℕ → List ℕ
leaf_part pages size (Ok y) = part pages (size * y.page) size
leaf_part pages size (Err k) = []

refused-part : (k i x : ℕ) (done : List ℕ) → answered k x ≡ Err i → unless k [] done ≡ []
unfolding unless
refused-part zero i x done e = cc
refused-part (suc k) i x done e = refl

module _ (s : Store) (a : Areas) (l v p : ℕ) where
  pub view_of_leaf : view_part s a l v p ≡ leaf_part a.pages s.size (leaf_out s a l v p)
  unfolding page_number_of
  view_of_leaf = go (leaf_out s a l v p) refl
    where
      go : (r : Result Leaf ℕ) → leaf_out s a l v p ≡ r → view_part s a l v p ≡ leaf_part a.pages s.size r
      go (Ok y) e = rw (← number-page s a l v p y e) (unless-0 (stamp_number s a l v p) [] _ (number-passed s a l v p y e).0)
      go (Err k) e = refused-part (stamp_number s a l v p) k 0 _ (number-refused s a l v p 0 k e)

  -- The page begins within an area whose length fits, so that its byte does too.
  pub begins_fits : (y : Leaf) → leaf_out s a l v p ≡ Ok y → length a.pages < 2 ^ 64 → s.size * y.page < 2 ^ 64
  unfolding stamp_number page_rows
  begins_fits y e h =
      let x = find_page a (number_on s l v) p in
      let all = passed _ tt (number-passed s a l v p y e).0 in
      let area : length a.pages ≡ s.size * s.pages = omega (arith, all.0) in
      let inside = found_inside s.pages x (number-found s a l v p y e) in
      rw (← number-page s a l v p y e) (omega (arith, area, mul-le-mul_left s.size (le_of_lt inside)))

  pub view_at_of_leaf : view_at s a l v p ≡ on_leaf (λ (y : Leaf). s.size * y.page) (leaf_out s a l v p)
  unfolding page_number_of
  view_at_of_leaf =
      by-leaf s a l v p (λ (y : Leaf). s.size * y.page) _ (λ y e. ap (λ (n : ℕ). s.size * n) (number-page s a l v p y e))

pub ruleset places = (begins_fits, view_at_of_leaf)
