-- The line on which a version got its number: the code's steps, and the laws of sound lines. Assumes nothing.
use mathlib.Core.Path.{◌≡◌, refl, sym, ◌∙◌, ap}
use mathlib.Core.Logic.{inl, inr}
use Prim.Native.Nat.{ℕ, zero, suc, ◌+◌, ◌<◌, ◌≤◌, min}
use native.Mathlib.Nat.{min-eq_left}
use native.Mathlib.Omega.{arith}
use borrow.Author.Tests.{lt-ltb, le-ltb}
use lib.Dec.{ltb}
use Rattle.tree.proofs.Meets.{lt-or-le}
use Rattle.lines.specs.Lines.{pick, owner_from, owner_of, Rooted}
use Rattle.lines.specs.declared.Branch.{Branch}

-- ---- one step

module _ (ls : ℕ → Branch) (l v : ℕ) where
  -- With no step left the search ends where it stands.
  pub from-none : (left : ℕ) → left ≤ 0 → owner_from left ls l v ≡ l
  unfolding owner_from
  from-none zero h = refl
  from-none (suc n) h = absurd (omega arith)

  -- One step by its test, for any number of steps: at 15 the definition would unfold through all of them.
  from_step : (n : ℕ) → owner_from (suc n) ls l v ≡ pick (ltb (ls l).start.0 v) l (owner_from n ls (min (ls l).source.0 15) v)
  unfolding owner_from
  from_step n = refl

  -- A version above the line's start is the line's own.
  pub from-own : (n : ℕ) → (ls l).start.0 < v → owner_from (suc n) ls l v ≡ l
  from-own n h = from_step n ∙ rw (lt-ltb (ls l).start.0 v h)

  -- Any other is of a line that this one comes from.
  pub from-shared : (n : ℕ) → v ≤ (ls l).start.0 → owner_from (suc n) ls l v ≡ owner_from n ls (min (ls l).source.0 15) v
  from-shared n h = from_step n ∙ rw (le-ltb (ls l).start.0 v h)

-- ---- the code's steps

module _ (ls : ℕ → Branch) (l v : ℕ) (b : Branch) (read : b ≡ ls l) where
  -- The loop ends at a line that has the version as its own.
  pub turn-ends : (left : ℕ) → 0 < left → b.start.0 < v → owner_from left ls l v ≡ l
  turn-ends zero some h = absurd (omega arith)
  turn-ends (suc n) some h = from-own ls l v n (rw read at h)

  -- Else it goes on at the source with a step less, for the same line in the end.
  pub turn_on : (left more at : ℕ) → left + 1 ≡ more → v ≤ b.start.0 → at ≡ min b.source.0 15 → owner_from left ls at v ≡ owner_from more ls l v
  turn_on left zero at less h e = absurd (omega arith)
  turn_on left (suc n) at less h e =
      let same : left ≡ n = omega arith in
      rw (same, e, read) (sym (from-shared ls l v n (rw read at h)))

pub ruleset turns = (from-none, turn-ends, turn_on)

-- ---- sound lines

module _ (ls : ℕ → Branch) (sound : Rooted ls) (v : ℕ) (some : 0 < v) where
  -- A line that shares a version comes from an earlier line, which the steps of the code reach.
  source-below : (l : ℕ) → l < 16 → v ≤ (ls l).start.0 → (ls l).source.0 < l
  source-below zero h k = absurd (omega (arith, sound.first))
  source-below (suc l) h k = sound.earlier (suc l) (omega arith) h

  -- There the least with 15, which the code takes to stay within the sixteen, changes nothing.
  source_of : (n l : ℕ) → l < 16 → v ≤ (ls l).start.0 → owner_from (suc n) ls l v ≡ owner_from n ls (ls l).source.0 v
  source_of n l h k =
      let near : (ls l).source.0 ≤ 15 = omega (arith, source-below l h k) in
      from-shared ls l v n k ∙ ap (λ (j : ℕ). owner_from n ls j v) (min-eq_left near)

  -- Line 0 has every version as its own.
  first-own : (n l : ℕ) → l ≤ 0 → owner_from n ls l v ≡ l
  first-own zero l h = from-none ls l v 0 (omega arith)
  first-own (suc n) l h =
      let none : l ≡ 0 = omega arith in
      from-own ls l v n (rw (none, sound.first) some)

  -- As many steps as the line's number are enough: more find the same line.
  pub steps-enough : (n m l : ℕ) → l < 16 → l ≤ n → l ≤ m → owner_from n ls l v ≡ owner_from m ls l v
  steps-enough zero m l h a b = first-own 0 l a ∙ sym (first-own m l a)
  steps-enough (suc n) zero l h a b = first-own (suc n) l b ∙ sym (first-own 0 l b)
  steps-enough (suc n) (suc m) l h a b = elim (lt-or-le (ls l).start.0 v) [
    | inl k ↦ from-own ls l v n k ∙ sym (from-own ls l v m k)
    | inr k ↦
        let near = source-below l h k in
        source_of n l h k ∙ steps-enough n m (ls l).source.0 (omega arith) (omega arith) (omega arith) ∙ sym (source_of m l h k)
  ]

  -- ---- where a version got its number

  -- On the line itself where the version is above its start.
  pub owner-own : (l : ℕ) → (ls l).start.0 < v → owner_of ls l v ≡ l
  owner-own l h = from-own ls l v 14 h

  -- On the source's where it is not.
  pub owner-shared : (l : ℕ) → l < 16 → v ≤ (ls l).start.0 → owner_of ls l v ≡ owner_of ls (ls l).source.0 v
  owner-shared l h k =
      let near = source-below l h k in
      source_of 14 l h k ∙ steps-enough 14 15 (ls l).source.0 (omega arith) (omega arith) (omega arith)

  -- What holds of a version on its own line, and comes to a line from its source, holds of every line: the lines' induction.
  pub owner-induction : (P : ℕ → Type 0) → ((l : ℕ) → (ls l).start.0 < v → P l)
      → ((l : ℕ) → l < 16 → (ls l).source.0 < l → v ≤ (ls l).start.0 → P (ls l).source.0 → P l) → (l : ℕ) → l < 16 → P l
  owner-induction P own shared l h = go 16 l h h
    where
      go : (n l : ℕ) → l < n → l < 16 → P l
      go zero l a h = absurd (omega arith)
      go (suc n) l a h = elim (lt-or-le (ls l).start.0 v) [
        | inl k ↦ own l k
        | inr k ↦
            let near = source-below l h k in
            shared l h near k (go n (ls l).source.0 (omega arith) (omega arith))
      ]

  -- A version's line is the line or an earlier one.
  pub owner-le : (l : ℕ) → l < 16 → owner_of ls l v ≤ l
  owner-le = owner-induction (λ l. owner_of ls l v ≤ l) (λ l k. omega (arith, owner-own l k)) (λ l h near k p. omega (arith, owner-shared l h k))

  -- A version is above the start of the line that it got its number on.
  pub owner-start : (l : ℕ) → l < 16 → (ls (owner_of ls l v)).start.0 < v
  owner-start = owner-induction (λ l. (ls (owner_of ls l v)).start.0 < v) (λ l k. rw (owner-own l k) k) (λ l h near k p. rw (owner-shared l h k) p)

  -- On the line that it got its number on, a version is that line's own.
  pub owner-owner : (l : ℕ) → l < 16 → owner_of ls (owner_of ls l v) v ≡ owner_of ls l v
  owner-owner l h = owner-own (owner_of ls l v) (owner-start l h)

  -- A search reads only the sources and starts of the lines up to where it begins.
  from-agrees : (ls' : ℕ → Branch) (n l : ℕ) → l < 16
      → ((j : ℕ) → j ≤ l → (ls j).source.0 ≡ (ls' j).source.0)
      → ((j : ℕ) → j ≤ l → (ls j).start.0 ≡ (ls' j).start.0)
      → owner_from n ls l v ≡ owner_from n ls' l v
  from-agrees ls' zero l h sources starts = from-none ls l v 0 (omega arith) ∙ sym (from-none ls' l v 0 (omega arith))
  from-agrees ls' (suc n) l h sources starts = elim (lt-or-le (ls l).start.0 v) [
    | inl k ↦ from-own ls l v n k ∙ sym (from-own ls' l v n (omega (arith, starts l (omega arith))))
    | inr k ↦
        let s = (ls l).source.0 in
        let near : s < l = source-below l h k in
        let same : min (ls' l).source.0 15 ≡ s = omega (arith, sources l (omega arith)) in
        source_of n l h k
        ∙ from-agrees ls' n s (omega arith) (λ j a. sources j (omega arith)) (λ j a. starts j (omega arith))
        ∙ sym (from-shared ls' l v n (omega (arith, starts l (omega arith))) ∙ ap (λ (j : ℕ). owner_from n ls' j v) same)
  ]

  -- Only the sources and starts up to the line decide, so that the later fields and the later lines may change.
  pub owner-agrees : (ls' : ℕ → Branch) (l : ℕ) → l < 16
      → ((j : ℕ) → j ≤ l → (ls j).source.0 ≡ (ls' j).source.0)
      → ((j : ℕ) → j ≤ l → (ls j).start.0 ≡ (ls' j).start.0)
      → owner_of ls l v ≡ owner_of ls' l v
  owner-agrees ls' l h sources starts = from-agrees ls' 15 l h sources starts
