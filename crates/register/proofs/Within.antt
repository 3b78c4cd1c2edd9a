-- A part's update meets some pages exactly where its pages, as they stand in it, pass one comparison of a larger and a smaller number.
-- Assumes nothing.
use mathlib.Core.Path.{◌≡◌}
use mathlib.Core.Logic.{inl, inr}
use Prim.Native.Nat.{ℕ, ◌+◌, ◌-◌, ◌^◌, ◌≤◌, ◌<◌, min, max}
use native.Mathlib.Omega.{arith}
use borrow.Author.Tests.{lt-ltb, le-ltb, le-leb, lt-leb}
use lib.Dec.{leb}
use Rattle.tree.specs.Tree.{meets}
use Rattle.register.specs.Register.{update_of}
use Rattle.register.specs.Register.{highest}
use Rattle.register.specs.declared.Part.{Part}
use Rattle.tree.proofs.Meets.{lt-or-le, within, before, after, side, meets-within, meets-before, meets-after}

module _ (a s : ℕ) where
  pub highest-past : 4095 < a → highest a s ≡ 0
  unfolding highest
  highest-past p = rw (lt-ltb 4095 a p, highest)

  pub highest-free : a ≤ 4095 → 4095 < a + s → highest a s ≡ 2 ^ 64 - 1
  unfolding highest
  highest-free p q = rw (le-ltb 4095 a p, lt-ltb 4095 (a + s) q, highest)

  pub highest-last : a ≤ 4095 → a + s ≤ 4095 → highest a s ≡ a + s - 1
  unfolding highest
  highest-last p q = rw (le-ltb 4095 a p, le-ltb 4095 (a + s) q, highest)

  pub ruleset highs = (highest-past, highest-free, highest-last)

  before-end : 0 < s → a + s ≤ 4095 → highest a s + 1 ≡ a + s
  before-end p q = omega (arith, highest-last (omega arith) q)

module _ (q : Part) (a s : ℕ) (fits : q.f.0 < 2 ^ 64) (some : 0 < s) where
  abbrev from : ℕ
  from = max q.f.0 a

  abbrev to : ℕ
  to = min (max q.f.0 q.last.0) (highest a s)

  pub within-meets : leb from to ≡ meets (update_of q).f (update_of q).last a s
  unfolding update_of
  within-meets = elim (side (update_of q).f (update_of q).last a s) [
    | within p w ↦ elim (lt-or-le 4095 (a + s)) [
      | inl t ↦ rw (meets-within _ _ a s p w, le-leb from to (omega (arith, highest-free a s (omega arith) t)))
      | inr t ↦ rw (meets-within _ _ a s p w, le-leb from to (omega (arith, before-end a s some t)))
    ]
    | before p ↦ rw (meets-before _ _ a s p, lt-leb from to (omega (arith, before-end a s some (omega arith))))
    | after p ↦ elim (lt-or-le 4095 a) [
      | inl t ↦ rw (meets-after _ _ a s p, lt-leb from to (omega (arith, highest-past a s t)))
      | inr t ↦ rw (meets-after _ _ a s p, lt-leb from to (omega arith))
    ]
  ]
