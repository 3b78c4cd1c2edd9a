-- The test is that of the powers of two up to 4,096.
use Rattle.std.proofs.Common.{◌≡◌, ℕ, ◌+◌, ◌-◌, ◌%◌, ◌^◌, ◌<◌, ◌≤◌, ◌⊎◌, sym, ap, ◌∙◌, inl, inr, ⊎_elim, arith, pow_pos, pow_mono}
use lib.Bits.{bit_and}
use Rattle.tree.specs.Contract.{root_in}
use Rattle.tree.proofs.Root.{height-le}
use Rattle.tree.proofs.Word.{word_holds, root-in-power, root-in-held}
use Rattle.tree.proofs.Power.{power-shares-none, shares-none-power}
use Rattle.tree.proofs.root_within.Goals as goal
use Rattle.tree.proofs.root_within.Goals.{then-below-lt-MOST_PAGES+then-span-below-eq0, else-below-lt-MOST_PAGES, else-below-lt-MOST_PAGES-via-then-below-lt-MOST_PAGES+else-span-below-eq0, else-below-lt-MOST_PAGES-via-else-below-lt-MOST_PAGES}

-- The word is above 0 where the number below it is small: so nothing wrapped.
passes : (s below : ℕ) → (below + 1) % 2 ^ 64 ≡ s → below < 4096 → bit_and s below ≡ 0 → s ≡ root_in s
passes s below e p q =
    let b : below ≡ s - 1 = omega arith in
    let t = shares-none-power s s (omega arith) (omega arith) (rw b at q) in
    let low = height-le 12 t.0 (omega (arith, t.1)) in
    t.1 ∙ sym (ap root_in t.1 ∙ root-in-power t.0 low)

-- A power of two up to 4,096 passes.
fails : (s below : ℕ) → below < 2 ^ 64 → (below + 1) % 2 ^ 64 ≡ s → (4096 ≤ below) ⊎ (bit_and s below ≡ 0 → ⊥) → 4096 ≡ root_in s
fails s below w e none = elim (word_holds s) [
  | inl t ↦
      let m = pow_mono t.1 in
      let b : below ≡ 2 ^ t.0 - 1 = omega (arith, t.2, pow_pos t.0) in
      absurd (⊎_elim (λ p. omega arith) (λ p. p (rw (t.2, b) (power-shares-none t.0))) none)
  | inr h ↦ sym h
]

pub invariant_of-result : goal.invariant_of-result
invariant_of-result c =
    let s = c.args.span in
    let b = (s + 18446744073709551615) % 2 ^ 64 in
    let e : c.if-below-lt-MOST_PAGES.held ≡ root_in s =
    elim c.if-below-lt-MOST_PAGES.branch [
      | then-below-lt-MOST_PAGES+then-span-below-eq0 w ↦ w.held-is ∙ passes s b (omega arith) w.if-below-lt-MOST_PAGES.true w.if-span-below-eq0.true
      | else-below-lt-MOST_PAGES w ↦ w.held-is ∙ fails s b (omega arith) (omega arith) (
          elim w.else-below-lt-MOST_PAGES.branch [
            | else-below-lt-MOST_PAGES-via-then-below-lt-MOST_PAGES+else-span-below-eq0 v ↦ inr v.if-span-below-eq0.false
            | else-below-lt-MOST_PAGES-via-else-below-lt-MOST_PAGES v ↦ inl v.if-below-lt-MOST_PAGES.false
          ])
    ] in
    record { is_root = rw e (root-in-held s).0 }

pub returns : goal.returns
returns c =
    let s = c.args.span in
    let b = (s + 18446744073709551615) % 2 ^ 64 in
    elim c.if-below-lt-MOST_PAGES.branch [
      | then-below-lt-MOST_PAGES+then-span-below-eq0 w ↦ w.held-is ∙ passes s b (omega arith) w.if-below-lt-MOST_PAGES.true w.if-span-below-eq0.true
      | else-below-lt-MOST_PAGES w ↦ w.held-is ∙ fails s b (omega arith) (omega arith) (
          elim w.else-below-lt-MOST_PAGES.branch [
            | else-below-lt-MOST_PAGES-via-then-below-lt-MOST_PAGES+else-span-below-eq0 v ↦ inr v.if-span-below-eq0.false
            | else-below-lt-MOST_PAGES-via-else-below-lt-MOST_PAGES v ↦ inl v.if-below-lt-MOST_PAGES.false
          ])
    ]
