-- The node count of an update: its pages lie within the limits, and capped sums say the same of it. Assumes nothing.
use mathlib.Core.Path.{◌≡◌}
use Prim.Native.Nat.{ℕ, ◌-◌, ◌^◌, min, max}
use native.Mathlib.Omega.{arith}
use Rattle.tree.specs.Tree.{root_height}
use Rattle.register.specs.Register.{limited}
use Rattle.tree.specs.Contract.{Pages}
use Rattle.tree.proofs.Root.{root-fits, root-low}

pub limited-pages : (a b z : ℕ) → let u = limited a b z in Pages u.f u.last (root_height u.size)
limited-pages a b z =
    let u = limited a b z in
    record { order = omega arith; inside = omega (arith, root-fits u.size); low = omega (arith, root-low u.size (omega arith)) }

capped-last : (x : ℕ) → min (min x (2 ^ 64 - 1) - 1) 4095 ≡ min (x - 1) 4095
capped-last x = omega arith

capped-size : (x : ℕ) → min (min x (2 ^ 64 - 1)) 4096 ≡ min x 4096
capped-size x = omega arith

min-over-max : (b x m : ℕ) → min (max b x) m ≡ max (min b m) (min x m)
min-over-max b x m = omega arith

pub limited-capped : (a x b : ℕ) → limited a (min x (2 ^ 64 - 1) - 1) (max b (min x (2 ^ 64 - 1))) ≡ limited a (x - 1) (max b x)
limited-capped a x b =
    rw (capped-last x, min-over-max b (min x (2 ^ 64 - 1)) 4096, capped-size x, min-over-max b x 4096)
