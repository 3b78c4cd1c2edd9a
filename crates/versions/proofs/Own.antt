-- The words of a store's lines: what they say of a line's state, and of the numbers of its own versions.
-- Assumes nothing.
use mathlib.Core.Path.{◌≡◌, ap, sym}
use Prim.Native.Nat.{ℕ, ◌<◌, ◌≤◌}
use borrow.Author.Tests.{lt-ltb, le-ltb}
use lib.ListN.{get_or}
use Rattle.lines.specs.Lines.{no_branch, number_of, field_of, unpacked, source_at}
use Rattle.lines.proofs.Owner.{from-own}
use Rattle.versions.specs.declared.Store.{Store}
use Rattle.versions.specs.Store.{line_in, number_on}

module _ (s : Store) (l : ℕ) where
  -- The state of one of the sixteen is what its source and its word say.
  pub line-there : l < 16 → line_in s l ≡ unpacked (source_at s.sources l) (get_or s.lines l 0)
  unfolding line_in
  line-there h = rw (lt-ltb l 16 h)

  -- No other has begun.
  pub line-past : 16 ≤ l → line_in s l ≡ no_branch
  unfolding line_in
  line-past h = rw (le-ltb l 16 h)

  -- A version above the start of its line is the line's own, and has its number by the line.
  pub own-number : (v : ℕ) → (line_in s l).start.0 < v → number_of l v ≡ number_on s l v
  own-number v h = sym (ap (λ (k : ℕ). number_of k v) (from-own (line_in s) l v 14 h))

  -- The start is the lowest number of the line's word.
  pub own-by-word : (v : ℕ) → l < 16 → field_of (get_or s.lines l 0) 0 < v → number_of l v ≡ number_on s l v
  own-by-word v h k = own-number v (rw (line-there h) k)

pub ruleset own = (own-by-word)
