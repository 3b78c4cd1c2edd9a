-- The node at an index of an update, without a search in the update: over its first page, or by its number in the whole tree of the root's height.
-- Assumes nothing.
use Rattle.std.proofs.Common.{◌≡◌, ℕ, zero, suc, ◌+◌, ◌-◌, ◌%◌, ◌^◌, ◌<◌, ◌≤◌, sym, refl, ◌∙◌, inl, inr, mod-eq_of_lt, arith, pow_pos, pow_mono, le-ltb, lt-ltb}
use Rattle.tree.specs.Tree.{Update, Node, node, count_of, root_height}
use Rattle.tree.specs.Place.{below, kth, first, index, halvings, node_numbered}
use Rattle.tree.specs.Contract.{first_of, span_of}
use Rattle.tree.proofs.Meets.{lt-or-le}
use Rattle.tree.proofs.First.{first-le, lt-first, first-root, first-nest}
use Rattle.tree.proofs.Ones.{count-lt}
use Rattle.tree.proofs.Index.{index-early}
use Rattle.tree.proofs.Halved.{halved-zero, halved-small, index-halved}
use Rattle.tree.proofs.Walk.{node-has}
use Rattle.tree.proofs.Weaving.{Inside, index-kth, kth-node}
use Rattle.tree.proofs.Place

-- In the whole tree of height h, where no page is before 0 or past the last, every node has its number.
pub whole-number : (h a j : ℕ) → j ≤ h → a < 2 ^ h → first a j ≡ a → kth 0 (2 ^ h - 1) 0 h ((h - j) + halvings a) ≡ node a j
whole-number h a j k s g =
    let q : first a j ≤ 2 ^ h - 1 = omega arith in
    let i : index 0 (2 ^ h - 1) 0 h a j ≡ (h - j) + halvings a = omega (arith, halved-zero, rw g at (index-halved 0 (2 ^ h - 1) h a j k s q)) in
    let e = Place.kth-index 0 (2 ^ h - 1) (omega arith) h a j s k (omega (arith, pow_pos j)) q in
    rw (i, g) at e

-- What `node_numbered` is, over the first page and past it.
module _ (f height past k : ℕ) where
  pub numbered-early : k ≤ height → node_numbered f height past k ≡ node (first f (height - k)) (height - k)
  unfolding node_numbered
  numbered-early q = rw (le-ltb height k q, node_numbered)

  pub numbered-late : height < k → node_numbered f height past k ≡ kth 0 (2 ^ height - 1) 0 height ((k + past) % 2 ^ 64)
  unfolding node_numbered
  numbered-late q = rw (lt-ltb height k q, node_numbered)

-- The node at any index of a node lies in it.
pub kth-inside : (f l a h i : ℕ) → (a ≤ first_of (kth f l a h i)) × (first_of (kth f l a h i) + span_of (kth f l a h i) ≤ a + 2 ^ h)
unfolding kth
kth-inside f l a zero i = (omega arith, omega arith)
kth-inside f l a (suc h) zero = (omega arith, omega arith)
kth-inside f l a (suc h) (suc i) = elim (lt-or-le i (below f l a h)) [
  | inl p ↦ rw (lt-ltb i (below f l a h) p, kth) (let t = kth-inside f l a h i in (t.0, omega arith))
  | inr p ↦ rw (le-ltb i (below f l a h) p, kth) (let t = kth-inside f l (a + 2 ^ h) h (i - below f l a h) in (omega arith, omega arith))
]

-- The node lies in the tree of the largest blob, whatever the numbers are.
pub numbered_within : (f height past k : ℕ) → f ≤ 4095 → height ≤ 12
    → first_of (node_numbered f height past k) + span_of (node_numbered f height past k) ≤ 4096
numbered_within f height past k q low = elim (lt-or-le height k) [
  | inl r ↦ rw (numbered-late f height past k r) (omega (arith, kth-inside 0 (2 ^ height - 1) 0 height ((k + past) % 2 ^ 64), pow_mono low))
  | inr r ↦ rw (numbered-early f height past k r) (omega (arith, first-nest f 12 (height - k) (omega arith), first-root f 12 (omega arith)))
]

module _ (u : Update) (inside : Inside u) where
  -- The first ones are those over the first page, root first.
  pub kth-early : (k : ℕ) → k ≤ root_height u.size
      → kth u.f u.last 0 (root_height u.size) k ≡ node (first u.f (root_height u.size - k)) (root_height u.size - k)
  kth-early k q =
      let f = u.f in
      let l = u.last in
      let h = root_height u.size in
      let j = h - k in
      let le = first-le f j in
      let s : f < 2 ^ h = omega (arith, inside.order, inside.low) in
      let e : index f l 0 h f j ≡ k = omega (arith, index-early f l f j (omega (arith, inside.order)) h s (omega arith) le) in
      rw e at (Place.kth-index f l inside.order h f j s (omega arith) (lt-first f j) (omega (arith, inside.order)))

  late-node : (k : ℕ) → k < count_of u → root_height u.size < k → (x : Node) → kth u.f u.last 0 (root_height u.size) k ≡ x
      → x ≡ kth 0 (2 ^ root_height u.size - 1) 0 (root_height u.size) (k + halvings u.f)
  late-node k q r (node a j) e =
      let h = root_height u.size in
      let g = kth-node u inside k a j q e in
      let n = node-has u a j g.1 in
      let i = rw g.0 at (index-halved u.f u.last h a j n.0 n.1 n.3) in
      let z : (h - j) + halvings a ≡ k + halvings u.f = omega (arith, index-kth u inside k a j q e) in
      sym (rw z at (whole-number h a j n.0 n.1 g.0))

  -- Past those, a node starts past the first page, and before it in the whole tree stand the nodes before it in the update, and those that end
  -- before the first page.
  pub kth-late : (k : ℕ) → k < count_of u → root_height u.size < k
      → kth u.f u.last 0 (root_height u.size) k ≡ kth 0 (2 ^ root_height u.size - 1) 0 (root_height u.size) (k + halvings u.f)
  kth-late k q r = late-node k q r (kth u.f u.last 0 (root_height u.size) k) refl

  -- The k-th node of an update, as the code names it.
  pub numbered-kth : (k : ℕ) → root_height u.size ≤ 12 → k < count_of u
      → node_numbered u.f (root_height u.size) (halvings u.f) k ≡ kth u.f u.last 0 (root_height u.size) k
  numbered-kth k low q =
      let h = root_height u.size in
      elim (lt-or-le h k) [
        | inl r ↦
            let m = pow_mono low in
            let c = count-lt u.f u.last h inside.order inside.low in
            let e : (k + halvings u.f) % 2 ^ 64 ≡ k + halvings u.f = mod-eq_of_lt (omega (arith, halved-small u.f, inside.order, inside.low)) in
            numbered-late u.f h (halvings u.f) k r ∙ rw e (sym (kth-late k q r))
        | inr r ↦ numbered-early u.f h (halvings u.f) k r ∙ sym (kth-early k r)
      ]
