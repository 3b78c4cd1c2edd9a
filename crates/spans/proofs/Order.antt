-- Of two numbers the first is less, or the second is not above it. Assumes nothing.
use mathlib.Core.Path.{◌≡◌, refl}
use mathlib.Core.Bool.{Bool, true, false}
use mathlib.Core.Logic.{◌⊎◌, inl, inr}
use Prim.Native.Nat.{ℕ, ◌≤◌, ◌<◌}
use borrow.Author.Tests.{ltb-true, ltb-false}
use lib.Dec.{ltb}

pub lt-or-le : (x y : ℕ) → (x < y) ⊎ (y ≤ x)
lt-or-le x y = go (ltb x y) refl
  where
    go : (b : Bool) → ltb x y ≡ b → (x < y) ⊎ (y ≤ x)
    go true e = inl (ltb-true x y e)
    go false e = inr (ltb-false x y e)
