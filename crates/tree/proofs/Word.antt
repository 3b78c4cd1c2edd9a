-- The root's span that a word holds: a power of two up to 4,096, so that it has a height, at most 12.
-- Assumes nothing.
use Rattle.std.proofs.Common.{◌≡◌, ℕ, ◌^◌, ◌<◌, ◌≤◌, Bool, true, false, ◌&&◌, eqb, ltb, ◌⊎◌, sym, refl, ap, ◌∙◌, inl, inr, arith, pow_pos, pow_mono, ltb-true, lt-ltb, eq-eqb, eqb-true}
use mathlib.Core.Bool.{and-eq-true_iff}
use borrow.Author.Tests.{lt-leb}
use Rattle.spans.proofs.Smallest.{span-power}
use Rattle.tree.specs.Tree.{root_height}
use Rattle.tree.specs.Contract.{root_span, root_in, height_in}
use Rattle.tree.proofs.Meets.{lt-or-le}
use Rattle.tree.proofs.Root.{root-of-power, root-low}

-- More pages than a tree has have no root's span.
no_span : (s : ℕ) → 4096 < s → root_span s ≡ 0
unfolding root_span
no_span s p = rw (lt-ltb 0 s (omega arith), lt-leb s 4096 p)

-- A number of pages that is its own root's span is a power of two, up to 4,096.
pub own-span : (s : ℕ) → 0 < s → root_span s ≡ s → (root_height s ≤ 12) × (s ≡ 2 ^ root_height s)
own-span s p e = elim (lt-or-le 4096 s) [
  | inl q ↦ absurd (omega (arith, no_span s q))
  | inr q ↦ (root-low s q, sym e ∙ span-power s p q)
]

-- A word is such a power, or holds the largest.
pub word_holds : (s : ℕ) → ((h : ℕ) × (h ≤ 12) × (s ≡ 2 ^ h)) ⊎ (root_in s ≡ 4096)
unfolding root_in
word_holds s = go (ltb 0 s && eqb (root_span s) s) refl
  where
    go : (b : Bool) → (ltb 0 s && eqb (root_span s) s) ≡ b → ((h : ℕ) × (h ≤ 12) × (s ≡ 2 ^ h)) ⊎ (root_in s ≡ 4096)
    go true e =
        let t = (and-eq-true_iff (ltb 0 s) (eqb (root_span s) s)).0 e in
        let o = own-span s (ltb-true 0 s t.0) (eqb-true (root_span s) s t.1) in
        inl (root_height s, o.0, o.1)
    go false e = inr (rw (e, root_in))

-- And such a power is its own root's span.
pub power-span : (h : ℕ) → h ≤ 12 → root_span (2 ^ h) ≡ 2 ^ h
power-span h p = span-power (2 ^ h) (pow_pos h) (pow_mono p) ∙ ap (λ (n : ℕ). 2 ^ n) (root-of-power h)

-- What a word holds that is such a power: itself.
pub root-in-power : (h : ℕ) → h ≤ 12 → root_in (2 ^ h) ≡ 2 ^ h
unfolding root_in
root-in-power h p = rw (lt-ltb 0 (2 ^ h) (pow_pos h), eq-eqb (root_span (2 ^ h)) (2 ^ h) (power-span h p), root_in)

pub height-in-power : (h : ℕ) → h ≤ 12 → height_in (2 ^ h) ≡ h
unfolding height_in
height-in-power h p = ap root_height (root-in-power h p) ∙ root-of-power h

-- So a word holds 2 to a height.
held : (s : ℕ) → (h : ℕ) × (h ≤ 12) × (root_in s ≡ 2 ^ h)
held s = elim (word_holds s) [
  | inl t ↦ (t.0, t.1, ap root_in t.2 ∙ root-in-power t.0 t.1)
  | inr e ↦ (12, omega arith, e)
]

held-height : (s : ℕ) → height_in s ≡ (held s).0
unfolding height_in
held-height s = ap root_height (held s).2 ∙ root-of-power (held s).0

pub root-in : (s : ℕ) → root_in s ≡ 2 ^ height_in s
root-in s = (held s).2 ∙ ap (λ (n : ℕ). 2 ^ n) (sym (held-height s))

pub height-in-low : (s : ℕ) → height_in s ≤ 12
height-in-low s = omega (arith, held-height s, (held s).1)

-- What a word holds, a word holds as it is.
pub root-in-held : (s : ℕ) → (root_in (root_in s) ≡ root_in s) × (height_in (root_in s) ≡ height_in s)
root-in-held s =
    let low = height-in-low s in rw (root-in s) (root-in-power (height_in s) low, height-in-power (height_in s) low)

-- A word that holds itself is 2 to its height.
pub own_power : (s : ℕ) → root_in s ≡ s → s ≡ 2 ^ height_in s
own_power s e = sym e ∙ root-in s

-- The root's span for a size that a tree has is held as it is.
pub root-in-span : (s : ℕ) → 0 < s → s ≤ 4096 → (root_in (root_span s) ≡ root_span s) × (height_in (root_span s) ≡ root_height s)
root-in-span s p q =
    let e = span-power s p q in
    let low = root-low s q in
    rw e (root-in-power (root_height s) low, height-in-power (root_height s) low)
