-- The node area as pairs, one place after another: its length, what stands at a place, and a node stored.
-- Assumes nothing.
use mathlib.Core.Path.{◌≡◌, refl, ap, ◌∙◌}
use mathlib.Core.Logic.{◌⊎◌, inl, inr, ◌≢◌}
use mathlib.Core.Bool.{true, false, ◌&&◌}
use mathlib.Core.List.{List, [], ◌∷◌}
use Prim.Native.Nat.{ℕ, zero, suc, ◌+◌, ◌*◌, ◌≤◌, ◌<◌}
use native.Mathlib.Omega.{arith}
use borrow.Author.Tests.{lt-ltb, le-ltb, ne_eqb}
use lib.Dec.{eqb}
use lib.ListN.{length, get_or, set}
use Rattle.tree.specs.NodeArea.{all_ones, unless_ones, node_at, with_node, stored}
use Rattle.model.proofs.Lists.Laid.{tab, Pair, ones_pair, flat}
use Rattle.model.proofs.Lists.Tab.{length-tab, get_or-tab, tab-set}
use Rattle.std.proofs.Common.{None}

double-suc : (q : ℕ) → 2 * suc q ≡ suc (suc (2 * q))
double-suc q = omega arith

after-suc : (q : ℕ) → 2 * suc q + 1 ≡ suc (suc (2 * q + 1))
after-suc q = omega arith

pub length-flat : (xs : List Pair) → length (flat xs) ≡ 2 * length xs
unfolding flat
length-flat [] = refl
length-flat (x ∷ xs) = omega (arith, length-flat xs)

pub flat-left : (xs : List Pair) (q : ℕ) → q < length xs → get_or (flat xs) (2 * q) 0 ≡ (get_or xs q ones_pair).0
unfolding flat
flat-left [] q h = absurd (omega arith)
flat-left (x ∷ xs) zero h = refl
flat-left (x ∷ xs) (suc q) h = rw double-suc (flat-left xs q (omega arith))

pub flat-right : (xs : List Pair) (q : ℕ) → q < length xs → get_or (flat xs) (2 * q + 1) 0 ≡ (get_or xs q ones_pair).1
unfolding flat
flat-right [] q h = absurd (omega arith)
flat-right (x ∷ xs) zero h = refl
flat-right (x ∷ xs) (suc q) h = rw after-suc (flat-right xs q (omega arith))

pub flat-set : (xs : List Pair) (q l r : ℕ) → set (set (flat xs) (2 * q) l) (2 * q + 1) r ≡ flat (set xs q (l, r))
unfolding flat
flat-set [] q l r = refl
flat-set (x ∷ xs) zero l r = refl
flat-set (x ∷ xs) (suc q) l r = rw (after-suc, double-suc) (ap (λ (z : List ℕ). x.0 ∷ x.1 ∷ z) (flat-set xs q l r))

unless_ones-not : (l r : ℕ) → (l ≡ all_ones → ⊥) ⊎ (r ≡ all_ones → ⊥) → unless_ones (eqb l all_ones && eqb r all_ones) l r ≡ stored l r
unless_ones-not l r (inl h) = rw (ne_eqb l all_ones h)
unless_ones-not l r (inr h) = rw (ne_eqb r all_ones h) (elim (eqb l all_ones) as (λ b. unless_ones (b && false) l r ≡ stored l r) [ true ↦ refl | false ↦ refl ])

module _ (n : ℕ) (g : ℕ → Pair) where
  pub length_pairs : length (flat (tab n g)) ≡ 2 * n
  length_pairs = length-flat (tab n g) ∙ ap (λ k. 2 * k) (length-tab n g)

  pub pairs-left : (q : ℕ) → q < n → get_or (flat (tab n g)) (2 * q) 0 ≡ (g q).0
  pairs-left q h = flat-left (tab n g) q (rw length-tab h) ∙ ap (λ (x : Pair). x.0) (get_or-tab n g q ones_pair h)

  pub pairs-right : (q : ℕ) → q < n → get_or (flat (tab n g)) (2 * q + 1) 0 ≡ (g q).1
  pairs-right q h = flat-right (tab n g) q (rw length-tab h) ∙ ap (λ (x : Pair). x.1) (get_or-tab n g q ones_pair h)

  -- What stands at a place: its pair, unless both its numbers are all ones.
  pub node-pair : (q : ℕ) → q < n → node_at (flat (tab n g)) q ≡ unless_ones (eqb (g q).0 all_ones && eqb (g q).1 all_ones) (g q).0 (g q).1
  unfolding node_at
  node-pair q h = rw (pairs-left q h, pairs-right q h, length_pairs, lt-ltb (2 * q + 1) (2 * n) (omega arith))

  pub node-missing : (q : ℕ) → q < n → g q ≡ ones_pair → node_at (flat (tab n g)) q ≡ None
  node-missing q h e = rw (node-pair q h, e)

  pub node-stored : (q : ℕ) → q < n → ((g q).0 ≡ all_ones → ⊥) ⊎ ((g q).1 ≡ all_ones → ⊥) → node_at (flat (tab n g)) q ≡ stored (g q).0 (g q).1
  node-stored q h e = node-pair q h ∙ unless_ones-not (g q).0 (g q).1 e

  pub node-past : (q : ℕ) → n ≤ q → node_at (flat (tab n g)) q ≡ None
  unfolding node_at
  node-past q h = rw (length_pairs, le-ltb (2 * q + 1) (2 * n) (omega arith))

  -- A node stored changes its place only.
  pub node-put : (h : ℕ → Pair) (q l r : ℕ) → q < n → ((j : ℕ) → j < n → j ≢ q → g j ≡ h j) → h q ≡ (l, r) → with_node (flat (tab n g)) q l r ≡ flat (tab n h)
  unfolding with_node
  node-put h q l r m e p = rw (length_pairs, lt-ltb (2 * q + 1) (2 * n) (omega arith)) (flat-set (tab n g) q l r ∙ ap flat (tab-set n g h q (l, r) m e p))
