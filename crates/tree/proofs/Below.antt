-- The count of the nodes at and below one node.
-- Assumes nothing.
use Rattle.std.proofs.Common.{◌≡◌, ℕ, zero, suc, ◌+◌, ◌-◌, ◌^◌, ◌<◌, ◌≤◌, min, length, ◌∙◌, add-zero, add_assoc, arith, pow_pos}
use Rattle.tree.specs.Tree.{nodes}
use Rattle.tree.specs.Place.{below}
use Rattle.tree.proofs.Meets.{Side, within, before, after, side, nodes-before, nodes-after, nodes-leaf, meets-within, meets-before, meets-after}
use Rattle.tree.proofs.Count.{length-within, length-nodes}

-- As many nodes stand below as with the pages numbered from d, and with the pages from d + c on left out.
outside : (f l d c b h : ℕ) → d ≤ l → b + 2 ^ h ≤ c → Side f l (d + b) (2 ^ h)
    → (f < d + b + 2 ^ h → d + b ≤ l → length (nodes f l (d + b) h) ≡ length (nodes (f - d) (min (l - d) (c - 1)) b h))
    → length (nodes f l (d + b) h) ≡ length (nodes (f - d) (min (l - d) (c - 1)) b h)
outside f l d c b h p q (within r s) k = k r s
outside f l d c b h p q (before r) k = rw (nodes-before f l (d + b) h, nodes-before (f - d) (min (l - d) (c - 1)) b h (omega arith))
outside f l d c b h p q (after r) k = rw (nodes-after f l (d + b) h, nodes-after (f - d) (min (l - d) (c - 1)) b h (omega (arith, pow_pos h)))

shape : (f l d c b h : ℕ) → d ≤ l → b + 2 ^ h ≤ c → length (nodes f l (d + b) h) ≡ length (nodes (f - d) (min (l - d) (c - 1)) b h)
shape f l d c b zero p q = outside f l d c b zero p q (side f l (d + b) 1) λ r s. rw (nodes-leaf f l (d + b) (omega arith) s, nodes-leaf (f - d) (min (l - d) (c - 1)) b (omega arith) (omega arith))
shape f l d c b (suc h) p q = outside f l d c b (suc h) p q (side f l (d + b) (2 ^ suc h)) λ r s.
    rw (
      length-within f l (d + b) h r s,
      length-within (f - d) (min (l - d) (c - 1)) b h (omega (arith, pow_pos h)) (omega (arith, pow_pos h)),
      shape f l d c b h p (omega arith),
      add_assoc d b (2 ^ h),
      shape f l d c (b + 2 ^ h) h p (omega arith),
    )

pub length-below : (f l a h : ℕ) → f ≤ l → length (nodes f l a h) ≡ below f l a h
unfolding below
length-below f l a h p = elim (side f l a (2 ^ h)) [
  | within r s ↦
      rw (meets-within f l a (2 ^ h) r s, below)
      (rw (add-zero a) at (shape f l a (2 ^ h) 0 h s (omega arith)) ∙ length-nodes (f - a) (min (l - a) (2 ^ h - 1)) h (omega arith) (omega (arith, pow_pos h)))
  | before r ↦ rw (nodes-before f l a h r, meets-before f l a (2 ^ h) r, below)
  | after r ↦ rw (nodes-after f l a h r, meets-after f l a (2 ^ h) r, below)
]
