-- The walk from version k's root ends at the page number that updates 1 .. k, applied in turn, leave at the page.
-- Assumes nothing.
use Rattle.std.proofs.Common.{◌≡◌, ℕ, zero, suc, ◌+◌, ◌^◌, ◌<◌, ◌≤◌, true, false, ◌&&◌, ltb, leb, ◌⊎◌, List, length, sym, refl, ap, ◌∙◌, inl, inr, eq-or-lt_of_le, arith, ltb-true, le-ltb, lt-ltb, le-leb, leb-true, Option, Some}
use mathlib.Core.Bool.{and-eq-true_iff}
use borrow.Author.Tests.{lt-leb}
use Rattle.tree.specs.Tree.{Update, node, meets, weaving, update, newest, size_at, root_height, height_of}
use Rattle.tree.specs.Place.{first, index}
use Rattle.tree.specs.Walk.{Accepted, version_over, Numbers, place_by, WovenBy, has_node, Stands, walk_by, covers, in_turn_by, leaf_version, place_of_version, leaf_at}
use Rattle.tree.proofs.Meets.{lt-or-le, within, before, after, meets-within}
use Rattle.tree.proofs.At.{At, at-get_or, at_lt}
use Rattle.tree.proofs.First.{first-le, lt-first, first-root, first-left, first-right, first_leaf, first-span, lt-root}
use Rattle.tree.proofs.Place.{index_at}
use Rattle.tree.proofs.Root.{root-fits, height-le}
use Rattle.tree.proofs.Newest.{sides, newest-within, newest-before, newest-after, newest-le, newest-meets, newest-next, newest-inside}

-- ---- for any numbers and any places

-- What the test `covers` says.
module _ (u : Update) (p : ℕ) where
  pub covers-yes : u.f ≤ p → p ≤ u.last → covers u p ≡ true
  unfolding covers
  covers-yes q r = rw (le-leb u.f p q, le-leb p u.last r)

  pub covers-before : p < u.f → covers u p ≡ false
  unfolding covers
  covers-before q = rw (lt-leb u.f p q)

  pub covers-after : u.last < p → covers u p ≡ false
  unfolding covers
  covers-after q = elim (leb u.f p) as (λ b. b && leb p u.last ≡ false) [ true ↦ lt-leb p u.last q | false ↦ refl ]

-- Applied in turn, the newest update that covers a page sets it.
module _ (us : List Update) (leaf : ℕ → ℕ → ℕ) where
  pub set-by-newest : (v p : ℕ) → 0 < newest us v p 1 → in_turn_by us leaf v p ≡ leaf (newest us v p 1) p
  unfolding in_turn_by
  set-by-newest zero p r = absurd (omega (arith, newest-le us 0 p 1))
  set-by-newest (suc v) p r = elim (sides us v p 1) [
    | within s t ↦ rw (newest-within us v p 1 s t, covers-yes (update us (suc v)) p (omega arith) t, in_turn_by)
    | before s ↦
        rw (newest-before us v p 1 s, covers-before (update us (suc v)) p (omega arith), in_turn_by)
        (set-by-newest v p (rw (newest-before us v p 1 s) at r))
    | after s ↦
        rw (newest-after us v p 1 s, covers-after (update us (suc v)) p s, in_turn_by)
        (set-by-newest v p (rw (newest-after us v p 1 s) at r))
  ]

-- Version v's root spans its size.
pub size-in-root : (us : List Update) (v : ℕ) → size_at us v ≤ 2 ^ height_of us v
unfolding size_at
size-in-root us v = root-fits (update us v).size

-- What the test `has_node` says.
module _ (u : Update) (p h : ℕ) where
  pub has-node : h ≤ root_height u.size → p < 2 ^ root_height u.size → u.f < first p h + 2 ^ h → first p h ≤ u.last → has_node u p h ≡ true
  unfolding has_node
  has-node a b c d =
      rw (le-leb h (root_height u.size) a, lt-ltb p (2 ^ root_height u.size) b, meets-within u.f u.last (first p h) (2 ^ h) c d)

  pub node-has : has_node u p h ≡ true → (h ≤ root_height u.size) × (p < 2 ^ root_height u.size) × (u.f < first p h + 2 ^ h) × (first p h ≤ u.last)
  unfolding has_node meets
  node-has e =
      let m = (and-eq-true_iff (leb h (root_height u.size) && ltb p (2 ^ root_height u.size)) (meets u.f u.last (first p h) (2 ^ h))).0 e in
      let r = (and-eq-true_iff (leb h (root_height u.size)) (ltb p (2 ^ root_height u.size))).0 m.0 in
      let s = (and-eq-true_iff (ltb u.f (first p h + 2 ^ h)) (leb (first p h) u.last)).0 m.1 in
      (leb-true h (root_height u.size) r.0, ltb-true p (2 ^ root_height u.size) r.1, ltb-true u.f (first p h + 2 ^ h) s.0, leb-true (first p h) u.last s.1)

module _ (us : List Update) (k : ℕ) (accepted : (v : ℕ) → v < k → Accepted us v) where
  -- A version's update has pages, inside its size, inside its root.
  pub some-pages : (v : ℕ) → 0 < v → v ≤ k → (update us v).f ≤ (update us v).last
  some-pages zero p q = absurd (omega arith)
  some-pages (suc v) p q = (accepted v q).some-pages

  pub last-in-root : (v : ℕ) → 0 < v → v ≤ k → (update us v).last < 2 ^ height_of us v
  last-in-root zero p q = absurd (omega arith)
  last-in-root (suc v) p q = omega (arith, accepted v q, root-fits (update us (suc v)).size)

  -- A version's root is its own.
  pub newest-own : (v : ℕ) → 0 < v → v ≤ k → newest us v 0 (2 ^ height_of us v) ≡ v
  newest-own zero p q = absurd (omega arith)
  newest-own (suc v) p q =
      newest-within us v 0 (2 ^ height_of us (suc v)) (omega (arith, some-pages (suc v) p q, last-in-root (suc v) p q)) (omega arith)

  -- The node over p of the newest version that meets it lies in that version's own root, however much larger version k's root is:
  -- the next version, which misses the node, starts inside the size, or ends before the node.
  pub in-root : (p h w : ℕ) → 0 < w → w < k → first p h ≤ (update us w).last
      → (first p h + 2 ^ h ≤ (update us (suc w)).f) ⊎ ((update us (suc w)).last < first p h) → (h ≤ height_of us w) × (p < 2 ^ height_of us w)
  in-root p h w o q r (inl s) =
      let a = (accepted w q).starts in
      let z = size-in-root us w in
      (height-le (height_of us w) h (omega arith), omega (arith, lt-first p h))
  in-root p h w o q r (inr s) =
      let z = last-in-root w o (omega arith) in
      let m = height-le (height_of us w) h (omega (arith, first-span p h (omega arith))) in
      (m, lt-root p (height_of us w) h m (omega arith))

  pub newest-in-root : (p h : ℕ) → 0 < version_over us k p h → h ≤ height_of us k → p < 2 ^ height_of us k
      → (h ≤ height_of us (version_over us k p h)) × (p < 2 ^ height_of us (version_over us k p h))
  newest-in-root p h o q r = elim (eq-or-lt_of_le (newest-le us k (first p h) (2 ^ h))) [
    | inl e ↦ rw e (q, r)
    | inr s ↦ in-root p h (version_over us k p h) o s (newest-meets us k (first p h) (2 ^ h) o).1 (newest-next us k (first p h) (2 ^ h) s)
  ]

  -- So that version's tree has the node.
  pub has-newest : (p h : ℕ) → 0 < version_over us k p h → h ≤ height_of us k → p < 2 ^ height_of us k
      → has_node (update us (version_over us k p h)) p h ≡ true
  has-newest p h o q r =
      let m = newest-meets us k (first p h) (2 ^ h) o in
      let n = newest-in-root p h o q r in
      has-node (update us (version_over us k p h)) p h n.0 n.1 m.0 m.1

  -- Some update up to k covers every page below the size.
  pub covered : (v p : ℕ) → v ≤ k → p < size_at us v → 0 < newest us v p 1
  unfolding size_at update
  covered zero p q r = absurd (omega arith)
  covered (suc v) p q r = elim (sides us v p 1) [
    | within s t ↦ rw newest-within (omega arith)
    | before s ↦ rw newest-before (covered v p (omega arith) (omega (arith, accepted v q)))
    | after s ↦ rw newest-after (covered v p (omega arith) (omega (arith, accepted v q)))
  ]

  -- Where it stands in that version's weaving order.
  pub newest-order : (p h : ℕ) → 0 < version_over us k p h → h ≤ height_of us k → p < 2 ^ height_of us k
      → At (weaving (update us (version_over us k p h)))
      (index (update us (version_over us k p h)).f (update us (version_over us k p h)).last 0 (height_of us (version_over us k p h)) p h) (node (first p h) h)
  newest-order p h o q r =
      let v = version_over us k p h in
      let m = newest-meets us k (first p h) (2 ^ h) o in
      let n = newest-in-root p h o q r in
      index_at (update us v).f (update us v).last (some-pages v o (newest-le us k (first p h) (2 ^ h))) 0 (height_of us v) p h
      (sym (first-root p (height_of us v) n.1)) n.0 m.0 m.1

  module _ (N : Numbers) (at : ℕ → ℕ → ℕ → Option ℕ) (area : List ℕ) where
    -- Where versions 1 .. k are woven whole, and `at` places each version's nodes by the weaving order, every node that
    -- version k's root leads to stands.
    module _ (woven : (v : ℕ) → 0 < v → v ≤ k → WovenBy us N area v)
        (places : (v p h : ℕ) → 0 < v → v ≤ k → has_node (update us v) p h ≡ true → at (N.code v) p h ≡ Some (place_by us N v p h))
        (p h : ℕ) (o : 0 < version_over us k p h) (q : h ≤ height_of us k) (r : p < 2 ^ height_of us k) where
      pub stands-woven : Stands us N at area k p h
      unfolding place_by
      stands-woven =
          let v = version_over us k p h in
          let le = newest-le us k (first p h) (2 ^ h) in
          let order = newest-order p h o q r in
          rw (places v p h o le (has-newest p h o q r)) (woven v o le _ (at_lt order) ∙ rw (at-get_or (node 0 0) order))

    module _ (stands : (p h : ℕ) → 0 < version_over us k p h → h ≤ height_of us k → p < 2 ^ height_of us k → Stands us N at area k p h)
        (p : ℕ) (o : 0 < k) (q : p < size_at us k) where
      in-k : p < 2 ^ height_of us k
      in-k = omega (arith, size-in-root us k)

      -- Every node over a page below the size has a version.
      there : (h : ℕ) → 0 < version_over us k p h
      there h =
          let c = covered k p (omega arith) q in
          let i = newest-inside us k (first p h) (2 ^ h) p 1 (first-le p h) (omega (arith, lt-first p h)) in
          omega (arith, newest-le us (version_over us k p h) p 1)

      walk_from : (h : ℕ) → h ≤ height_of us k
          → walk_by at area h (N.code (version_over us k p h)) p ≡ leaf_at (N.code (leaf_version us k p)) (N.leaf (leaf_version us k p) p)
      unfolding walk_by
      walk_from zero r = rw (stands p 0 (there 0) r in-k, first_leaf p)
      walk_from (suc h) r =
          let inside = newest-inside us k (first p (suc h)) (2 ^ suc h) in
          let s = stands p (suc h) (there (suc h)) r in-k in
          elim (lt-or-le p (first p (suc h) + 2 ^ h)) [
            | inl l ↦
                rw (s, lt-ltb p (first p (suc h) + 2 ^ h) l, ← ap N.code (inside (first p (suc h)) (2 ^ h) (omega arith) (omega arith)), ← first-left p h l)
                (walk_from h (omega arith))
            | inr l ↦
                rw (s, le-ltb p (first p (suc h) + 2 ^ h) l, ← ap N.code (inside (first p (suc h) + 2 ^ h) (2 ^ h) (omega arith) (omega arith)), ← first-right p h l)
                (walk_from h (omega arith))
          ]

      -- The walk from version k's root ends at the leaf of the newest version that covers the page.
      pub walk-in-turn-by : walk_by at area (height_of us k) (N.code k) p ≡ leaf_at (N.code (leaf_version us k p)) (N.leaf (leaf_version us k p) p)
      walk-in-turn-by = rw (first-root p (height_of us k) in-k, newest-own k o (omega arith)) at (walk_from (height_of us k) (omega arith))

      -- The page number there is the one that updates 1 .. k, applied in turn, leave.
      pub walk-number : walk_by at area (height_of us k) (N.code k) p ≡ leaf_at (N.code (leaf_version us k p)) (in_turn_by us N.leaf k p)
      walk-number = rw (set-by-newest us N.leaf k p (covered k p (omega arith) q)) walk-in-turn-by

-- ---- one run of versions

-- The place of a node that a version of the run has.
pub place-has : (us : List Update) (base : ℕ → ℕ) (v p h : ℕ) → 0 < v → v ≤ length us → has_node (update us v) p h ≡ true
    → place_of_version us base v p h ≡ Some (base v + index (update us v).f (update us v).last 0 (height_of us v) p h)
unfolding place_of_version
place-has us base v p h a b c = rw (lt-ltb 0 v a, le-leb v (length us) b, c)

-- A version is called by its own number, and a leaf's second number is 0.
abbrev pub alone : (ℕ → ℕ → ℕ) → (ℕ → ℕ) → Numbers
alone leaf base = record { code = λ v. v; leaf = leaf; second = λ v p. 0; place = λ v i. base v + i }

module _ (us : List Update) (k : ℕ) (accepted : (v : ℕ) → v < k → Accepted us v) (fits : k ≤ length us) (leaf : ℕ → ℕ → ℕ) (base : ℕ → ℕ) (area : List ℕ)
    (woven : (v : ℕ) → 0 < v → v ≤ k → WovenBy us (alone leaf base) area v) where
  places : (v p h : ℕ) → 0 < v → v ≤ k → has_node (update us v) p h ≡ true → place_of_version us base v p h ≡ Some (place_by us (alone leaf base) v p h)
  unfolding place_by
  places v p h o le e = place-has us base v p h o (omega arith) e

  -- The walk from version k's root, in an area where versions 1 .. k are woven whole.
  pub walk-alone : (p : ℕ) → 0 < k → p < size_at us k
      → walk_by (place_of_version us base) area (height_of us k) k p ≡ leaf_at (leaf_version us k p) (in_turn_by us leaf k p)
  walk-alone = let N = alone leaf base in walk-number us k accepted N (place_of_version us base) area (stands-woven us k accepted N (place_of_version us base) area woven places)
