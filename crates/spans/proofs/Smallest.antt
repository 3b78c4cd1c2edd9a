-- The root's height is the least whose span holds the size, so that the root's span is the smallest power of two not below it.
-- Assumes nothing.
use mathlib.Core.Path.{◌≡◌, refl}
use mathlib.Core.Logic.{inl, inr}
use Prim.Native.Nat.{ℕ, zero, suc, ◌+◌, ◌^◌, ◌≤◌, ◌<◌}
use native.Mathlib.Nat.{add-suc, suc-add, zero-add, add-zero, eq-or-lt_of_le}
use native.Mathlib.Omega.{arith}
use borrow.Author.Tests.{lt-ltb, le-leb, lt-leb}
use lib.Pow.{pow_mono}
use Rattle.spans.specs.Span.{height_from, root_height, root_span, SmallestPower}
use Rattle.spans.proofs.Order.{lt-or-le}

fits-from : (d h s : ℕ) → s ≤ 2 ^ (h + d) → s ≤ 2 ^ height_from d h s
unfolding height_from
fits-from zero h s p = rw add-zero at p
fits-from (suc d) h s p = elim (lt-or-le (2 ^ h) s) [
  | inl q ↦ rw (lt-leb s (2 ^ h) q, height_from) (fits-from d (suc h) s (rw (suc-add, ← add-suc h d) p))
  | inr q ↦ rw (le-leb s (2 ^ h) q, height_from) q
]

least-from : (d h s j : ℕ) → h ≤ j → j < height_from d h s → 2 ^ j < s
unfolding height_from
least-from zero h s j p q = absurd (omega arith)
least-from (suc d) h s j p q = elim (lt-or-le (2 ^ h) s) [
  | inl r ↦ elim (eq-or-lt_of_le p) [ inl e ↦ rw (← e) r | inr t ↦ least-from d (suc h) s j t (rw (lt-leb s (2 ^ h) r, height_from) at q) ]
  | inr r ↦ absurd (omega (arith, rw (le-leb s (2 ^ h) r, height_from) at q))
]

pub lt-pow : (s : ℕ) → s < 2 ^ s
lt-pow zero = omega arith
lt-pow (suc s) = omega (arith, lt-pow s)

pub root-fits : (s : ℕ) → s ≤ 2 ^ root_height s
unfolding root_height
root-fits s = fits-from s 0 s (rw zero-add (omega (arith, lt-pow s)))

pub root-least : (s j : ℕ) → j < root_height s → 2 ^ j < s
unfolding root_height
root-least s j p = least-from s 0 s j (omega arith) p

-- The root's span of a size that a tree has.
pub span-power : (s : ℕ) → 0 < s → s ≤ 4096 → root_span s ≡ 2 ^ root_height s
unfolding root_span
span-power s p q = rw (lt-ltb 0 s p, le-leb s 4096 q)

pub smallest-power : (s : ℕ) → 0 < s → s ≤ 4096 → SmallestPower s (root_span s)
smallest-power s p q = rw (span-power s p q) (record {
  height = root_height s;
  power = refl;
  holds = root-fits s;
  smallest = λ h k. elim (lt-or-le h (root_height s)) [ inl r ↦ absurd (omega (arith, root-least s h r)) | inr r ↦ pow_mono r ];
})
