-- The root's span of a size is 2 to the root's height, and 0 where there are no pages or too many.
use Rattle.std.proofs.Common.{◌≡◌, ℕ, ◌^◌, ◌⊎◌, sym, refl, ◌∙◌, inl, inr, arith, pow_pos, lt-ltb}
use borrow.Author.Tests.{lt-leb}
use Rattle.spans.proofs.Smallest.{span-power}
use Rattle.tree.specs.Tree.{root_height}
use Rattle.tree.specs.Contract.{root_span, height_for}
use Rattle.tree.proofs.Meets.{lt-or-le}
use Rattle.tree.proofs.Root.{height-for}
use Rattle.tree.proofs.root_height.Goals as goal

-- A size has no span and no height, or its span is 2 to its height.
span-or-none : (s : ℕ) → ((root_span s ≡ 0) × (0 ≡ height_for s)) ⊎ (root_span s ≡ 2 ^ height_for s)
unfolding root_span height_for root_height
span-or-none s = elim (lt-or-le 4096 s) [
  | inl p ↦ inl (rw (lt-ltb 0 s (omega arith), lt-leb s 4096 p) (refl, refl))
  | inr p ↦ elim (lt-or-le 0 s) [
    | inl q ↦ inr (rw (height-for s p) (span-power s q p))
    | inr q ↦ let e : s ≡ 0 = omega arith in inl (rw e (refl, refl))
  ]
]

pub returns-then-span-eq0 : goal.returns-then-span-eq0
returns-then-span-eq0 c =
    let s = c.args.size in
    elim (span-or-none s) [
      | inl p ↦ p.1
      | inr p ↦ absurd (omega (arith, sym p ∙ sym c.root_span-span.ensures ∙ c.if-span-eq0.true, pow_pos (height_for s)))
    ]

pub returns-else-span-eq0 : goal.returns-else-span-eq0
returns-else-span-eq0 c =
    let s = c.args.size in
    elim (span-or-none s) [
      | inl p ↦ absurd (c.if-span-eq0.false (c.root_span-span.ensures ∙ p.0))
      | inr p ↦ c.height_of.ensures (height_for s) (c.root_span-span.ensures ∙ p)
    ]
