-- A place of the node area by the code's test, which doubles nothing: it is below half the area's length.
-- Assumes nothing.
use Rattle.std.proofs.Common.{◌≡◌, ℕ, ◌+◌, ◌*◌, ◌/◌, ◌<◌, ◌≤◌, true, false, arith, le-ltb, lt-ltb}
use Rattle.tree.specs.NodeArea.{has_place}

module _ (len q : ℕ) where
  pub has-place : q < len / 2 → has_place len q ≡ true
  has-place p = lt-ltb (2 * q + 1) len (omega arith)

  pub has-no-place : len / 2 ≤ q → has_place len q ≡ false
  has-no-place p = le-ltb (2 * q + 1) len (omega arith)
