-- The places of a list of windows: with one window more, and the minutes inside them. Assumes nothing.
use mathlib.Core.Path.{◌≡◌, refl}
use mathlib.Core.Bool.{false}
use mathlib.Core.List.{List, [], ◌∷◌, ◌++◌}
use Prim.Native.Nat.{ℕ, zero, suc, ◌+◌, ◌-◌, ◌<◌}
use native.Mathlib.Omega.{arith}
use lib.ListN.{length, set, replicate, length-append}
use lib.Seq.{set-append_seam, append_snoc}
use Rattle.windows.specs.declared.Window.{Window}
use Rattle.windows.specs.Windows.{inside, no_window, placed}

pub placed-more : (ws : List Window) (w : Window) → length ws < 32 → set (placed ws).places (length ws) w ≡ (placed (ws ++ (w ∷ []))).places
unfolding placed
placed-more ws w h =
    let one : 32 - length ws ≡ suc (31 - length ws) = omega arith in
    let less : 32 - (length ws + 1) ≡ 31 - length ws = omega arith in
    rw (one, set-append_seam, append_snoc, length-append, less)

-- places that are not used hold no minute
unused : (n k : ℕ) → inside (replicate n no_window) k ≡ false
unfolding inside
unused zero k = refl
unused (suc n) k = refl

filled-inside : (ws : List Window) (n k : ℕ) → inside (ws ++ replicate n no_window) k ≡ inside ws k
unfolding inside
filled-inside [] n k = unused n k
filled-inside (w ∷ ws) n k = rw (filled-inside ws n k)

-- a minute is inside the places of any list exactly where it is inside the list
pub placed-inside : (ws : List Window) (k : ℕ) → inside (placed ws).places k ≡ inside ws k
unfolding placed
placed-inside ws k = filled-inside ws (32 - length ws) k
