-- What the test `meets` says, and the equations of `nodes` by it.
-- Assumes nothing.
use Rattle.std.proofs.Common.{◌≡◌, ℕ, zero, suc, ◌+◌, ◌^◌, ◌<◌, ◌≤◌, true, false, ◌&&◌, ltb, leb, [], ◌∷◌, ◌++◌, refl, inl, inr, arith, ltb-true, le-ltb, lt-ltb, le-leb, leb-true}
use mathlib.Core.Bool.{and-eq-true_iff}
use borrow.Author.Tests.{lt-leb}
use Rattle.tree.specs.Tree.{node, meets, nodes}
pub use Rattle.spans.proofs.Order.{lt-or-le}

-- The s pages from a on meet the pages f .. l, or lie before them, or after them. Proofs go by cases on `side f l a s`.
pub data Side (f l a s : ℕ) : Type 0 where
  within : f < a + s → a ≤ l → Side f l a s
  before : a + s ≤ f → Side f l a s
  after : l < a → Side f l a s

pub side : (f l a s : ℕ) → Side f l a s
side f l a s = elim (lt-or-le f (a + s)) [ inl p ↦ elim (lt-or-le l a) [ inl q ↦ after q | inr q ↦ within p q ] | inr p ↦ before p ]

module _ (f l a s : ℕ) where
  pub meets-within : f < a + s → a ≤ l → meets f l a s ≡ true
  unfolding meets
  meets-within p q = rw (lt-ltb f (a + s) p, le-leb a l q)

  pub meets-before : a + s ≤ f → meets f l a s ≡ false
  unfolding meets
  meets-before p = rw (le-ltb f (a + s) p)

  pub meets-after : l < a → meets f l a s ≡ false
  unfolding meets
  meets-after p = elim (ltb f (a + s)) as (λ b. b && leb a l ≡ false) [ true ↦ lt-leb a l p | false ↦ refl ]

  pub meets-true : meets f l a s ≡ true → (f < a + s) × (a ≤ l)
  unfolding meets
  meets-true e = let b = (and-eq-true_iff (ltb f (a + s)) (leb a l)).0 e in (ltb-true f (a + s) b.0, leb-true a l b.1)

-- The equations of `nodes`.
nodes-out : (f l a h : ℕ) → meets f l a (2 ^ h) ≡ false → nodes f l a h ≡ []
unfolding nodes
nodes-out f l a zero e = rw (e, nodes)
nodes-out f l a (suc h) e = rw (e, nodes)

module _ (f l a h : ℕ) where
  pub nodes-before : a + 2 ^ h ≤ f → nodes f l a h ≡ []
  nodes-before p = nodes-out f l a h (meets-before f l a (2 ^ h) p)

  pub nodes-after : l < a → nodes f l a h ≡ []
  nodes-after p = nodes-out f l a h (meets-after f l a (2 ^ h) p)

  pub nodes-within : f < a + 2 ^ suc h → a ≤ l → nodes f l a (suc h) ≡ node a (suc h) ∷ (nodes f l a h ++ nodes f l (a + 2 ^ h) h)
  unfolding nodes
  nodes-within p q = rw (meets-within f l a (2 ^ suc h) p q, nodes)

pub nodes-leaf : (f l a : ℕ) → f ≤ a → a ≤ l → nodes f l a 0 ≡ node a 0 ∷ []
unfolding nodes
nodes-leaf f l a p q = rw (meets-within f l a 1 (omega arith) q, nodes)
