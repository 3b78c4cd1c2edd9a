-- The search for the node at a number of a whole tree, as the code makes it: from a node into the half that the number lies in.
-- Assumes nothing.
use Rattle.std.proofs.Common.{◌≡◌, ℕ, zero, suc, ◌+◌, ◌-◌, ◌/◌, ◌^◌, ◌<◌, ◌≤◌, min, ◌⊎◌, refl, ap, ◌∙◌, ⊎_elim, sub-one, arith, pow_pos}
use lib.Count.{ones}
use Rattle.tree.specs.Tree.{node}
use Rattle.tree.specs.Place.{below, kth}
use Rattle.tree.specs.Contract.{Names, first_of, span_of}
use Rattle.tree.proofs.Descent.{below-within, kth-leaf, kth-here, kth-left, kth-right}
use Rattle.tree.proofs.Ones.{count-full}

-- The nodes below a node of the whole tree: twice its pages, but one.
below-whole : (H a h : ℕ) → a + 2 ^ h ≤ 2 ^ H → below 0 (2 ^ H - 1) a h ≡ 2 ^ suc h - 1
unfolding ones
below-whole H a h q =
    let p = pow_pos h in
    let e : min (2 ^ H - 1 - a) (2 ^ h - 1) ≡ 2 ^ h - 1 = omega arith in
    let z : 0 - a ≡ 0 = omega arith in
    rw (below-within 0 (2 ^ H - 1) a h (omega arith) (omega arith), e, z) (omega (arith, count-full 0 h p))

-- A span above 1 has halves.
half-span : (h span : ℕ) → span ≡ 2 ^ h → 1 < span → (0 < h) × (span / 2 ≡ 2 ^ (h - 1)) × (2 ^ suc (h - 1) ≡ span)
half-span zero span e q = absurd (omega arith)
half-span (suc h) span e q = simp sub-one (omega arith, omega arith, omega arith)

no-halves : (h span : ℕ) → span ≡ 2 ^ h → span ≤ 1 → h ≡ 0
no-halves zero span e q = refl
no-halves (suc h) span e q = absurd (omega (arith, pow_pos h))

-- The search for the i-th node of the whole tree of height H has come to the node of this span at a: it is the k-th of this one's.
pub record Numbering (H i a span k : ℕ) : Type 0 where
  pub height : ℕ
  pub spans : span ≡ 2 ^ height
  pub inside : a + span ≤ 2 ^ H
  pub same : kth 0 (2 ^ H - 1) a height k ≡ kth 0 (2 ^ H - 1) 0 H i

-- It begins at the root.
pub number-begins : (H i s : ℕ) → s ≡ 2 ^ H → Numbering H i 0 s i
number-begins H i s e = record { height = H; spans = e; inside = omega arith; same = refl }

module _ {H i a span k : ℕ} (s : Numbering H i a span k) where
  -- It goes on into a half.
  module _ (wide : 1 < span) (pos : 0 < k) where
    half : (0 < s.height) × (span / 2 ≡ 2 ^ (s.height - 1)) × (2 ^ suc (s.height - 1) ≡ span)
    half = half-span s.height span s.spans wide

    left-nodes : below 0 (2 ^ H - 1) a (s.height - 1) ≡ span - 1
    left-nodes = rw half.2 at (below-whole H a (s.height - 1) (omega (arith, half.2, s.inside)))

    pub number-left : k - 1 < span - 1 → Numbering H i a (span / 2) (k - 1)
    number-left q = record {
      height = s.height - 1;
      spans = half.1;
      inside = omega (arith, s.inside);
      same = kth-left 0 (2 ^ H - 1) a s.height k half.0 pos (rw left-nodes q) ∙ s.same;
    }

    pub number-right : span - 1 ≤ k - 1 → Numbering H i (a + span / 2) (span / 2) (k - 1 - (span - 1))
    number-right q = record {
      height = s.height - 1;
      spans = half.1;
      inside = omega (arith, s.inside);
      same = rw half.1 (rw left-nodes at (kth-right 0 (2 ^ H - 1) a s.height k half.0 pos (rw left-nodes q)) ∙ s.same);
    }

  -- It ends at a leaf, or where the node itself is the one.
  pub number-ends : (k ≡ 0) ⊎ (span ≤ 1) → Names (kth 0 (2 ^ H - 1) 0 H i) a span
  number-ends w = record { first = ap first_of (here ∙ s.same); spans = s.spans ∙ ap span_of (here ∙ s.same) }
    where
      here : node a s.height ≡ kth 0 (2 ^ H - 1) a s.height k
      here = ⊎_elim (kth-here 0 (2 ^ H - 1) a s.height k) (λ t. kth-leaf 0 (2 ^ H - 1) a s.height k (no-halves s.height span s.spans t)) w
