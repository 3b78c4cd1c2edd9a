-- What a version makes: its nodes in weaving order, their number, and the two descents between a node and its index, which undo one another.
-- Assumes nothing.
use Rattle.std.proofs.Common.{◌≡◌, ℕ, zero, suc, ◌+◌, ◌-◌, ◌/◌, ◌^◌, ◌<◌, ◌≤◌, true, List, length, get_or, refl, inl, inr, arith, pow_pos, le-ltb, lt-ltb}
use native.Mathlib.Nat.{div-eq_of_lt-le}
use Rattle.tree.specs.Tree.{Update, Node, node, nodes, weaving, node_count, count_of, root_height, update}
use Rattle.tree.specs.Place.{below, kth, first, index}
use Rattle.tree.specs.Walk.{Accepted, has_node}
use Rattle.tree.specs.Contract.{first_of}
use Rattle.tree.proofs.Meets.{lt-or-le, nodes-leaf}
use Rattle.tree.proofs.Count.{length-nodes, length-within}
use Rattle.tree.proofs.Below.{length-below}
use Rattle.tree.proofs.At.{at-get_or}
use Rattle.tree.proofs.First.{first-root, first-left, first-right}
use Rattle.tree.proofs.Place.{met, kth-at}
use Rattle.tree.proofs.Root.{root-fits}
use Rattle.tree.proofs.Walk.{has-node, node-has, some-pages, last-in-root}
use Rattle.tree.proofs.Place

-- The update has pages, and its last page lies in its root.
pub record Inside (u : Update) : Type 0 where
  pub order : u.f ≤ u.last
  pub low : u.last < 2 ^ root_height u.size

-- An accepted version's update is such.
pub accepted-inside : (us : List Update) (k : ℕ) → ((v : ℕ) → v < k → Accepted us v) → (v : ℕ) → 0 < v → v ≤ k → Inside (update us v)
accepted-inside us k accepted v p q = record { order = some-pages us k accepted v p q; low = last-in-root us k accepted v p q }

-- ---- where the node at an index stands

abbrev level_of : Node → ℕ
level_of (node a h) = h

-- A node on its height's grid: its halves are on theirs.
module _ (a h : ℕ) (e : first a (suc h) ≡ a) where
  pub grid-left : first a h ≡ a
  grid-left = omega (arith, first-left a h (omega (arith, pow_pos h)))

  same_above : first (a + 2 ^ h) (suc h) ≡ a
  unfolding first
  same_above = rw (div-eq_of_lt-le {k = a / 2 ^ suc h} (2 ^ suc h) {m = a + 2 ^ h} (omega arith) (omega (arith, pow_pos h))) e

  pub grid-right : first (a + 2 ^ h) h ≡ a + 2 ^ h
  grid-right = omega (arith, same_above, first-right (a + 2 ^ h) h (omega (arith, same_above)))

-- The node x at index i of (a, h): on its height's grid, at or below (a, h), with pages of f .. l, and of index i.
record Told (f l a h i : ℕ) (x : Node) : Type 0 where
  grid : first (first_of x) (level_of x) ≡ first_of x
  level : level_of x ≤ h
  from : a ≤ first_of x
  to : first_of x < a + 2 ^ h
  starts : f < first_of x + 2 ^ level_of x
  ends : first_of x ≤ l
  place : index f l a h (first_of x) (level_of x) ≡ i

module _ (f l : ℕ) (le : f ≤ l) where
  told : (a h i : ℕ) → first a h ≡ a → i < length (nodes f l a h) → Told f l a h i (kth f l a h i)
  unfolding kth index
  told a zero zero e q =
      let m = met f l le a 0 q in
      record { grid = e; level = omega arith; from = omega arith; to = omega arith; starts = m.0; ends = m.1; place = refl }
  told a zero (suc i) e q =
      let m = met f l le a 0 (omega arith) in
      absurd (omega (arith, rw (nodes-leaf f l a (omega arith) m.1) at q))
  told a (suc h) zero e q =
      let m = met f l le a (suc h) q in
      record {
        grid = e;
        level = omega arith;
        from = omega arith;
        to = omega (arith, pow_pos (suc h));
        starts = m.0;
        ends = m.1;
        place = rw (lt-ltb h (suc h) (omega arith), index);
      }
  told a (suc h) (suc i) e q =
      let m = met f l le a (suc h) (omega arith) in
      let s = rw (length-within f l a h m.0 m.1, length-below f l a h le) at q in
      elim (lt-or-le i (below f l a h)) [
        | inl p ↦
            let t = told a h i (grid-left a h e) (rw (length-below f l a h le) p) in
            let x = kth f l a h i in
            rw (lt-ltb i (below f l a h) p, kth) (record {
              grid = t.grid;
              level = omega arith;
              from = t.from;
              to = omega arith;
              starts = t.starts;
              ends = t.ends;
              place = rw (le-ltb h (level_of x) t.level, lt-ltb (first_of x) (a + 2 ^ h) t.to, index, t.place);
            })
        | inr p ↦
            let t = told (a + 2 ^ h) h (i - below f l a h) (grid-right a h e) (omega arith) in
            let x = kth f l (a + 2 ^ h) h (i - below f l a h) in
            rw (le-ltb i (below f l a h) p, kth) (record {
              grid = t.grid;
              level = omega arith;
              from = omega arith;
              to = omega arith;
              starts = t.starts;
              ends = t.ends;
              place = rw (le-ltb h (level_of x) t.level, le-ltb (first_of x) (a + 2 ^ h) t.from, index, t.place) (omega arith);
            })
      ]

-- ---- the theorems

-- The sum over q of document 01 is the number of nodes of the weaving order.
pub weaving-sum : (f n s : ℕ) → 0 < n → f + n ≤ s → length (nodes f (f + n - 1) 0 (root_height s)) ≡ node_count f n s
unfolding node_count
weaving-sum f n s p q = length-nodes f (f + n - 1) (root_height s) (omega arith) (omega (arith, root-fits s))

module _ (u : Update) (inside : Inside u) where
  -- A version makes as many nodes as its update's count says.
  pub weaving-length : length (weaving u) ≡ count_of u
  weaving-length = length-nodes u.f u.last (root_height u.size) inside.order inside.low

  -- The k-th node of a version, found by counts, is the one that stands there in weaving order.
  pub weaving-kth : (i : ℕ) → i < count_of u → get_or (weaving u) i (node 0 0) ≡ kth u.f u.last 0 (root_height u.size) i
  weaving-kth i q = at-get_or (node 0 0) (kth-at u.f u.last inside.order 0 (root_height u.size) i (rw weaving-length q))

  -- A node's index leads back to the node.
  pub kth-index : (p j : ℕ) → has_node u p j ≡ true
      → kth u.f u.last 0 (root_height u.size) (index u.f u.last 0 (root_height u.size) p j) ≡ node (first p j) j
  kth-index p j e =
      let n = node-has u p j e in
      Place.kth-index u.f u.last inside.order (root_height u.size) p j n.1 n.0 n.2 n.3

  module _ (i a j : ℕ) (q : i < count_of u) (e : kth u.f u.last 0 (root_height u.size) i ≡ node a j) where
    at-index : Told u.f u.last 0 (root_height u.size) i (node a j)
    at-index =
        let h = root_height u.size in
        rw e at (told u.f u.last inside.order 0 h i (first-root 0 h (pow_pos h)) (rw weaving-length q))

    -- The node at an index has that index.
    pub index-kth : index u.f u.last 0 (root_height u.size) a j ≡ i
    index-kth = at-index.place

    -- The node at an index is one of the version's, named by its first page.
    pub kth-node : (first a j ≡ a) × (has_node u a j ≡ true)
    kth-node = let t = at-index in (t.grid, has-node u a j t.level (omega arith) (omega arith) (omega arith))
