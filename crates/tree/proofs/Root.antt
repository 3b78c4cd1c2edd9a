-- Heights by their spans: the root's, and that of any span.
-- Assumes nothing.
use Rattle.std.proofs.Common.{◌≡◌, ℕ, zero, suc, ◌+◌, ◌-◌, ◌/◌, ◌%◌, ◌^◌, ◌<◌, ◌≤◌, refl, ap, ◌∙◌, inl, inr, arith, pow_pos, pow-add, le-leb}
use lib.Count.{count_trailing_zeros}
use lib.Pow.{pow-lt, shl-shr}
use Rattle.tree.specs.Tree.{root_height}
use Rattle.tree.specs.Contract.{height_for}
use Rattle.tree.proofs.Meets.{lt-or-le}
-- The root's span holds the size, and no smaller one does.
pub use Rattle.spans.proofs.Smallest.{lt-pow, root-fits, root-least}

-- A height whose span the size reaches is no higher than the root.
pub height-le : (s h : ℕ) → 2 ^ h ≤ 2 ^ s → h ≤ s
height-le s h p = elim (lt-or-le s h) [ inl q ↦ absurd (omega (arith, pow-lt q)) | inr q ↦ q ]

-- The zeros below a span's one bit are as many as its height.
pub span-zeros : (k h : ℕ) → 2 ^ h < 2 ^ k → count_trailing_zeros k (2 ^ h) ≡ h
unfolding count_trailing_zeros
span-zeros zero h p = absurd (omega (arith, pow_pos h))
span-zeros (suc k) zero p = refl
span-zeros (suc k) (suc h) p =
    let half : 2 ^ suc h / 2 ≡ 2 ^ h = omega arith in
    let even : 2 ^ suc h % 2 ≡ 0 = omega arith in
    rw (even, half, span-zeros k h (omega arith))

-- A span halved so many times.
pub halved-span : (h k : ℕ) → k ≤ h → 2 ^ h / 2 ^ k ≡ 2 ^ (h - k)
halved-span h k p =
    let e : h ≡ h - k + k = omega arith in ap (λ (n : ℕ). 2 ^ n / 2 ^ k) e ∙ ap (λ (n : ℕ). n / 2 ^ k) (pow-add 2 (h - k) k) ∙ shl-shr (2 ^ (h - k)) k

-- The root of a power of two of pages has its height.
pub root-of-power : (h : ℕ) → root_height (2 ^ h) ≡ h
root-of-power h = elim (lt-or-le h (root_height (2 ^ h))) [
  | inl q ↦ absurd (omega (arith, root-least (2 ^ h) h q))
  | inr q ↦ omega (arith, height-le (root_height (2 ^ h)) h (root-fits (2 ^ h)))
]

-- The root's height of a size that a tree has.
pub height-for : (s : ℕ) → s ≤ 4096 → height_for s ≡ root_height s
unfolding height_for
height-for s p = rw (le-leb s 4096 p)

-- The root of the largest blob has height 12.
pub root-low : (s : ℕ) → s ≤ 4096 → root_height s ≤ 12
root-low s p = elim (lt-or-le 12 (root_height s)) [ inl q ↦ absurd (omega (arith, root-least s 12 q)) | inr q ↦ q ]
