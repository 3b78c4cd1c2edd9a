-- What `part` is where it runs past the area, and where it lies within. Assumes nothing.
use mathlib.Core.Path.{◌≡◌}
use mathlib.Core.List.{List, []}
use Prim.Native.Nat.{ℕ, ◌+◌, ◌-◌, ◌<◌, ◌≤◌}
use native.Mathlib.Omega.{arith}
use lib.ListN.{length, take, drop}
use borrow.Author.Tests.{le-leb, lt-leb}
use Rattle.pages.specs.Pages.{part}

module _ (l : List ℕ) (at n : ℕ) where
  pub part-past : length l < at + n → [] ≡ part l at n
  unfolding part
  part-past h = simp (lt-leb _ _ h)

  pub part-within : at + n ≤ length l → take (at + n - at) (drop at l) ≡ part l at n
  unfolding part
  part-within h = let k : at + n - at ≡ n = omega arith in rw (le-leb _ _ h, k)
