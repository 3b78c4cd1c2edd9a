-- The walk down to a height: a walk to a leaf goes by it, and it reaches the newest version over the page at that height.
-- Assumes nothing.
use Rattle.std.proofs.Common.{◌≡◌, ℕ, zero, suc, ◌+◌, ◌^◌, ◌<◌, ◌≤◌, Bool, true, false, ltb, List, refl, ap, ◌∙◌, inl, inr, add-zero, suc-add, zero-add, arith, pow_mono, le-ltb, lt-ltb, Option, None, Some}
use Rattle.tree.specs.Tree.{Update, newest, size_at, height_of}
use Rattle.tree.specs.Place.{first}
use Rattle.tree.specs.Walk.{Accepted, version_over, Numbers, Stands, visit, goes, turns, walk_by, reach_by, leaf_of}
use Rattle.tree.proofs.Meets.{lt-or-le}
use Rattle.tree.proofs.First.{first-root, first-left, first-right, first-nest}
use Rattle.tree.proofs.Newest.{newest-after, newest-le, newest-inside}
use Rattle.tree.proofs.Walk.{size-in-root, newest-own}
use Rattle.tree.specs.declared.Stored.{Stored}
use Rattle.tree.specs.declared.Leaf.{Leaf}

-- ---- the walk to a leaf

module _ (at : ℕ → ℕ → ℕ → Option ℕ) (area : List ℕ) where
  -- Into the same half, and on the same way.
  turned : (p : ℕ) (x : Option Stored) (b : Bool) (k : ℕ → Option Leaf) (m : ℕ → Option ℕ) → ((d : ℕ) → k d ≡ leaf_of at area p (m d)) → goes x b k ≡ leaf_of at area p (turns x b m)
  turned p None b k m e = refl
  turned p (Some x) true k m e = e x.left
  turned p (Some x) false k m e = e x.right

  pub walk-reach : (h c p : ℕ) → ((q i : ℕ) → at 0 q i ≡ None) → walk_by at area h c p ≡ leaf_of at area p (reach_by at area 0 h c p)
  unfolding walk_by reach_by
  walk-reach zero c p none-at = refl
  walk-reach (suc h) zero p none-at = rw (none-at p (suc h), none-at p 0)
  walk-reach (suc h) (suc c) p none-at =
      rw (add-zero h)
      (turned p (visit area (at (suc c) p (suc h))) (ltb p (first p (suc h) + 2 ^ h)) (λ (d : ℕ). walk_by at area h d p) (λ (d : ℕ). reach_by at area 0 h d p)
      (λ d. walk-reach h d p none-at))

  -- At the height itself, the step from a number that is not 0, and from 0.
  reach_here : (j c p : ℕ) → reach_by at area j 0 c p ≡ Some c
  unfolding reach_by
  reach_here j c p = refl

  reach-inner : (j n c p : ℕ) → 0 < c
      → reach_by at area j (suc n) c p
      ≡ turns (visit area (at c p (suc (n + j)))) (ltb p (first p (suc (n + j)) + 2 ^ (n + j))) (λ (d : ℕ). reach_by at area j n d p)
  unfolding reach_by
  reach-inner j n zero p o = absurd (omega arith)
  reach-inner j n (suc c) p o = refl

  reach-none : (j n p : ℕ) → reach_by at area j n 0 p ≡ Some 0
  unfolding reach_by
  reach-none j zero p = refl
  reach-none j (suc n) p = refl

-- ---- what is reached

module _ (us : List Update) (k : ℕ) (accepted : (v : ℕ) → v < k → Accepted us v) where
  -- Nothing lies past the size, so nothing past the root.
  pub newest-past : (v a s : ℕ) → v ≤ k → size_at us v ≤ a → newest us v a s ≡ 0
  unfolding newest size_at
  newest-past zero a s q r = refl
  newest-past (suc v) a s q r =
      let g = (accepted v q).grows in
      newest-after us v a s (omega arith) ∙ newest-past v a s (omega arith) (omega arith)

  pub newest-outside : (a s : ℕ) → 2 ^ height_of us k ≤ a → newest us k a s ≡ 0
  newest-outside a s q = newest-past k a s (omega arith) (omega (arith, size-in-root us k))

  -- From the root's height on up the newest is version k itself.
  pub newest-above : (j : ℕ) → 0 < k → height_of us k ≤ j → newest us k 0 (2 ^ j) ≡ k
  newest-above j o q =
      let e = newest-inside us k 0 (2 ^ j) 0 (2 ^ height_of us k) (omega arith) (omega (arith, pow_mono q)) in
      let r = newest-own us k accepted k o (omega arith) in
      let u = newest-le us (newest us k 0 (2 ^ j)) 0 (2 ^ height_of us k) in
      omega (arith, newest-le us k 0 (2 ^ j))

  root-newest : (p : ℕ) → p < 2 ^ height_of us k → version_over us k p (height_of us k) ≡ k
  root-newest p r = rw (first-root p (height_of us k) r) (elim (lt-or-le 0 k) [
    | inl o ↦ newest-own us k accepted k o (omega arith)
    | inr o ↦ omega (arith, newest-le us k 0 (2 ^ height_of us k))
  ])

  module _ (N : Numbers) (at : ℕ → ℕ → ℕ → Option ℕ) (area : List ℕ)
      (none-called : N.code 0 ≡ 0) (called : (v : ℕ) → 0 < v → v ≤ k → 0 < N.code v)
      (stands : (p h : ℕ) → 0 < version_over us k p h → h ≤ height_of us k → p < 2 ^ height_of us k → Stands us N at area k p h)
      (j p : ℕ) (r : p < 2 ^ height_of us k) where
    -- Down from the node n levels above, which is numbered by the newest version over it.
    reach-from : (n : ℕ) → n + j ≤ height_of us k
        → reach_by at area j n (N.code (version_over us k p (n + j))) p ≡ Some (N.code (version_over us k p j))
    reach-from zero q = rw (zero-add j) (reach_here at area j (N.code (version_over us k p j)) p)
    reach-from (suc n) q = rw (suc-add n j) (elim (lt-or-le 0 (version_over us k p (suc (n + j)))) [
      | inl o ↦
          let inside = newest-inside us k (first p (suc (n + j))) (2 ^ suc (n + j)) in
          let s = stands p (suc (n + j)) o (omega arith) r in
          let c = called (version_over us k p (suc (n + j))) o (newest-le us k (first p (suc (n + j))) (2 ^ suc (n + j))) in
          reach-inner at area j n (N.code (version_over us k p (suc (n + j)))) p c
          ∙ elim (lt-or-le p (first p (suc (n + j)) + 2 ^ (n + j))) [
            | inl l ↦
                rw (s, lt-ltb p (first p (suc (n + j)) + 2 ^ (n + j)) l, ← ap N.code (inside (first p (suc (n + j))) (2 ^ (n + j)) (omega arith) (omega arith)), ← first-left p (n + j) l)
                (reach-from n (omega arith))
            | inr l ↦
                rw (s, le-ltb p (first p (suc (n + j)) + 2 ^ (n + j)) l, ← ap N.code (inside (first p (suc (n + j)) + 2 ^ (n + j)) (2 ^ (n + j)) (omega arith) (omega arith)), ← first-right p (n + j) l)
                (reach-from n (omega arith))
          ]
      | inr o ↦
          let z : version_over us k p (suc (n + j)) ≡ 0 = omega arith in
          let m = first-nest p (suc (n + j)) j (omega arith) in
          let i = newest-inside us k (first p (suc (n + j))) (2 ^ suc (n + j)) (first p j) (2 ^ j) m.0 m.1 in
          let y : version_over us k p j ≡ 0 = omega (arith, newest-le us (version_over us k p (suc (n + j))) (first p j) (2 ^ j)) in
          rw (z, y, none-called) (reach-none at area j (suc n) p)
    ])

    pub reach-newest : (n : ℕ) → j + n ≡ height_of us k → reach_by at area j n (N.code k) p ≡ Some (N.code (newest us k (first p j) (2 ^ j)))
    reach-newest n e =
        let d : n + j ≡ height_of us k = omega arith in
        rw (d, root-newest p r) at (reach-from n (omega arith))
