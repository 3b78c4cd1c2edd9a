-- A walk that ends at a leaf. Assumes nothing.
use Rattle.std.proofs.Common.{◌≡◌, ℕ, ◌<◌, false, inl, inr, arith, le-ltb, lt-ltb, Option, Some, None}
use Rattle.tree.proofs.Meets.{lt-or-le}
use Rattle.walk.specs.FindPage.{number_within, is_lost, or_zero}
use Rattle.tree.specs.declared.Leaf.{Leaf}

-- A page that is found lies within the page area.
pub found_inside : (pages : ℕ) (x : Option Leaf) → is_lost (number_within pages x) ≡ false → or_zero (number_within pages x) < pages
found_inside pages None e = let z : ◌≡◌ {A = ℕ} 0 1 = cc in absurd (omega arith)
found_inside pages (Some y) e = elim (lt-or-le y.page pages) [
  | inl h ↦ rw (lt-ltb y.page pages h, or_zero) h
  | inr h ↦ let t = rw (le-ltb y.page pages h, is_lost) at e in let z : ◌≡◌ {A = ℕ} 0 1 = cc in absurd (omega arith)
]
