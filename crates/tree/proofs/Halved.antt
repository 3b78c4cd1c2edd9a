-- The laws of `halvings`, x + x / 2 + x / 4 + .., and how it moves down one height.
-- Assumes nothing.
use Rattle.std.proofs.Common.{◌≡◌, ℕ, suc, ◌+◌, ◌-◌, ◌*◌, ◌^◌, ◌<◌, ◌≤◌, inl, inr, arith, pow_pos}
use lib.Count.{ones}
use Rattle.tree.specs.Place.{first, index, halvings}
use Rattle.tree.proofs.Meets.{lt-or-le}
use Rattle.tree.proofs.First.{first-left, first-right}
use Rattle.tree.proofs.Ones.{ones-le-twice, ones-mono}
use Rattle.tree.proofs.Index.{ones-within, ones-pow, index-early, index-late}

-- What `halvings` is, with no difference.
pub halved-ones : (x : ℕ) → halvings x + ones x ≡ 2 * x
unfolding halvings
halved-ones x = omega (arith, ones-le-twice x)

pub halved-zero : halvings 0 ≡ 0
halved-zero = omega (arith, halved-ones 0)

pub halved-small : (x : ℕ) → halvings x ≤ 2 * x
halved-small x = omega (arith, halved-ones x)

pub halved-mono : (x y : ℕ) → x ≤ y → halvings x ≤ halvings y
halved-mono x y p = omega (arith, halved-ones x, halved-ones y, ones-mono x y p)

module _ (p h : ℕ) where
  -- The first page of the node below, over a page in the left half or in the right half.
  pub halved-left : p < first p (suc h) + 2 ^ h → first p h ≡ first p (suc h)
  halved-left = first-left p h

  pub halved-right : first p (suc h) + 2 ^ h ≤ p → first p h ≡ first p (suc h) + 2 ^ h
  halved-right = first-right p h

  -- The left half of a node is a whole tree: the sum moves on by its nodes.
  pub halved-step : halvings (first p (suc h) + 2 ^ h) ≡ halvings (first p (suc h)) + (2 ^ suc h - 1)
  halved-step =
      let o = ones-within p (suc h) (2 ^ h) (omega (arith, pow_pos h)) in
      omega (arith, pow_pos h, ones-pow h, halved-ones (first p (suc h)), halved-ones (first p (suc h) + 2 ^ h))

-- Before the node of height j over page p stand those over it, one for each height, and, where it starts past f, those that end before it.
pub index-halved : (f l h p j : ℕ) → j ≤ h → p < 2 ^ h → first p j ≤ l → index f l 0 h p j ≡ (h - j) + (halvings (first p j) - halvings f)
index-halved f l h p j k s q = elim (lt-or-le f (first p j)) [
  | inl t ↦ omega (arith, index-late f l p j q h s k t, halved-ones f, halved-ones (first p j), halved-mono f (first p j) (omega arith))
  | inr t ↦ omega (arith, index-early f l p j q h s k t, halved-mono (first p j) f t)
]
