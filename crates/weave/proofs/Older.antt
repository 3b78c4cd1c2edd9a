-- The newest update below a version that meets some pages: one that is not yet published, or what the last published version's tree has. Assumes nothing.
use Rattle.std.proofs.Common.{◌≡◌, ℕ, zero, suc, ◌-◌, ◌^◌, ◌≤◌, ◌<◌, List, arith, lt-ltb, le-ltb}
use Rattle.lines.specs.Lines.{number_of, line_of, version_of}
use Rattle.register.specs.Register.{version_part, newest_own}
use Rattle.register.specs.declared.Record.{Record}
use Rattle.versions.specs.Store.{areas_of, line_in, number_on}
use Rattle.versions.specs.declared.Store.{Store}
use Rattle.walk.specs.FindPage.{reach_from}
use Rattle.descent.specs.Places.{or_most}
use Rattle.weave.specs.Weave.{older_number}

module _ (x : Store) (nodes : List ℕ) (rs : List Record) (c a h : ℕ) where
  -- The newest of the line's versions after the last published one.
  abbrev own : ℕ → ℕ
  own span = newest_own rs (line_of c) (line_in x (line_of c)).published.0 (version_of c - 1) a span

  pub older-own : (span : ℕ) → span ≡ 2 ^ h → 0 < own span → number_of (line_of c) (own span) ≡ older_number x nodes rs c a h
  unfolding older_number
  older-own span e p = rw (e, lt-ltb 0 (own (2 ^ h)) (rw e at p))

  pub older-tree : (pages : List ℕ) (span : ℕ) → span ≡ 2 ^ h → own span ≤ 0
      → let d = number_on x (line_of c) (line_in x (line_of c)).published.0 in
      or_most (reach_from (areas_of pages nodes rs) d (version_part rs d).span a h) ≡ older_number x nodes rs c a h
  unfolding older_number reach_from
  older-tree pages span e p = rw (le-ltb 0 (own (2 ^ h)) (rw e at p))

-- A version's number is of 32 bits.
pub number-small : (l v : ℕ) → number_of l v < 2 ^ 64 - 1
number-small l zero = omega arith
number-small l (suc v) = omega arith

pub ruleset older_rules = (older-own, older-tree, number-small)
