-- A published version of a line in the areas of a model: its tree, the walk to a page, and the page's bytes.
-- Assumes nothing.
use Rattle.std.proofs.Common.{Option}
use mathlib.Core.Path.{◌≡◌, refl, sym, ap, ◌∙◌}
use mathlib.Core.Bool.{true}
use mathlib.Core.List.{[]}
use Prim.Native.Nat.{ℕ, zero, suc, ◌+◌, ◌-◌, ◌*◌, ◌^◌, ◌≤◌, ◌<◌}
use native.Mathlib.Omega.{arith}
use lib.ListN.{length, get_or, take, drop}
use Rattle.tree.specs.Tree.{Update, node, weaving, update, height_of}
use Rattle.tree.specs.Place.{first, index}
use Rattle.tree.specs.Walk.{Accepted, place_by, has_node, walk_by, leaf_version, version_over, Stands, leaf_at}
use Rattle.tree.proofs.At.{at-get_or}
use Rattle.tree.proofs.Newest.{newest-le}
use Rattle.tree.proofs.Walk.{has-newest, newest-order, walk-in-turn-by}
use Rattle.model.specs.History.{version_at, updates}
use Rattle.model.specs.InTurn.{blob_at}
use Rattle.model.specs.Model.{Limits, Model, line_at, history, number_in}
use Rattle.model.specs.Layout.{node_stands, leaf_serial, leaf_number}
use Rattle.model.specs.Snapshot.{tree_in, numbers_on, place_of_number, tree_at}
use Rattle.model.proofs.Area.Image.{node_of, page_list, pages_image, nodes_image}
use Rattle.model.proofs.Lists.Blocks.{block-byte, block-part}
use Rattle.model.proofs.Model.Sound.{Sound}
use Rattle.model.proofs.History.SoundHistory.{line-history}
use Rattle.model.proofs.Area.LayoutLaws.{stands_live, page-live, page-room, page-read, pages-list, list_length, list-blocks}
use Rattle.model.proofs.History.Updates.{size-at}
use Rattle.model.proofs.Model.Shown.{shown_at, versions-length, update-shown}
use Rattle.model.proofs.History.Blob.{LeafBounds, leaf-bounds, page-filled}
use Rattle.model.proofs.Line.Numbers.{number-some, place-has}
use Rattle.model.proofs.Area.Trees.{tree-in}
use Rattle.model.proofs.Area.Woven.{published-upto, node-there}

-- Version 0 has no page.
pub some-version : (m : Model) (l v p : ℕ) → p < (version_at (history m l) v).size → 0 < v
some-version m l zero p h = absurd (omega arith)
some-version m l (suc v) p h = omega arith

module _ (L : Limits) (m : Model) (S : Sound L m) (l : ℕ) (there : l < length m.lines) where
  accepted-upto : (k : ℕ) → k ≤ (line_at m l).published → (w : ℕ) → w < k → Accepted (updates (history m l)) w
  accepted-upto k h w q = (S.lines l there).accepted w (omega (arith, published-upto L m S l there k h))

  -- `at` places the nodes of the line's versions up to k that stand where they lie.
  abbrev pub Places : (ℕ → ℕ → ℕ → Option ℕ) → ℕ → Type 0
  Places at k = (v p j : ℕ) → 0 < v → v ≤ k → has_node (update (updates (history m l)) v) p j ≡ true
      → (let us = updates (history m l) in node_stands m (shown_at m l v) (index (update us v).f (update us v).last 0 (height_of us v) p j) ≡ true)
      → at (number_in (history m l) v) p j ≡ place_of_number m (number_in (history m l) v) p j

  module _ (at : ℕ → ℕ → ℕ → Option ℕ) (k : ℕ) (h : k ≤ (line_at m l).published) (agrees : Places at k) where
    -- Every node that its root leads to stands.
    pub stands-image : (p j : ℕ) → 0 < version_over (updates (history m l)) k p j → j ≤ height_of (updates (history m l)) k → p < 2 ^ height_of (updates (history m l)) k
        → Stands (updates (history m l)) (numbers_on m l) at (nodes_image L m) k p j
    unfolding place_by
    stands-image p j o q r =
        let us = updates (history m l) in
        let w = version_over us k p j in
        let i = index (update us w).f (update us w).last 0 (height_of us w) p j in
        let le = newest-le us k (first p j) (2 ^ j) in
        let upto = published-upto L m S l there k h in
        let has = has-newest us k (accepted-upto k h) p j o q r in
        let s = stands_live L m S l there k upto p j o q r in
        let its : node_of m (shown_at m l w) i ≡ node (first p j) j =
        ap (λ (u : Update). get_or (weaving u) i (node 0 0)) (sym (update-shown m l w)) ∙ at-get_or (node 0 0) (newest-order us k (accepted-upto k h) p j o q r) in
        rw (agrees w p j o le has s, place-has L m S l w there o (omega arith) p j has) (node-there L m S l there w i o (omega arith) s ∙ rw its)

    -- The tree that the node area holds from its number down is that of the tree rule.
    pub tree-found : tree_in at (nodes_image L m) (height_of (updates (history m l)) k) (number_in (history m l) k) 0 ≡ tree_at m l k
    tree-found =
        tree-in (updates (history m l)) k (accepted-upto k h) (numbers_on m l) at (nodes_image L m) refl
        (λ v o q. number-some L m S l v there o (omega (arith, published-upto L m S l there k h))) stands-image

    -- The walk to a page ends at the leaf of the newest version that covers it, by that version's number, and its page number is that version's.
    pub walk-found : (p : ℕ) → p < (version_at (history m l) k).size
        → walk_by at (nodes_image L m) (height_of (updates (history m l)) k) (number_in (history m l) k) p
        ≡ leaf_at
        (number_in (history m l) (leaf_version (updates (history m l)) k p))
        (leaf_number m l (leaf_version (updates (history m l)) k p) p)
    walk-found p r =
        let us = updates (history m l) in
        let N = numbers_on m l in
        let area = nodes_image L m in
        walk-in-turn-by us k (accepted-upto k h) N at area stands-image p (some-version m l k p r)
        (rw (size-at (history m l) k) r)

  -- As the model itself places them.
  pub tree-image : (k : ℕ) → k ≤ (line_at m l).published
      → tree_in (place_of_number m) (nodes_image L m) (height_of (updates (history m l)) k) (number_in (history m l) k) 0 ≡ tree_at m l k
  tree-image k h = tree-found (place_of_number m) k h (λ v p j o q e s. refl)

  -- ---- the bytes of a page

  module _ (v p : ℕ) (h : v ≤ length (line_at m l).shown) (r : p < (version_at (history m l) v).size) where
    within : v ≤ length (history m l).versions
    within = omega (arith, versions-length m l)

    bounds : LeafBounds (history m l) v p
    bounds = leaf-bounds L (history m l) (line-history L m S l there) v p within r

    -- Its page number lies within the page area.
    pub number-within : leaf_number m l (leaf_version (updates (history m l)) v p) p < L.pages
    number-within = page-room L m S (leaf_serial (history m l) (leaf_version (updates (history m l)) v p) p) (page-live L m S l there v p h r)

    -- The page there is the version's.
    pub page-found : get_or (page_list L m) (leaf_number m l (leaf_version (updates (history m l)) v p) p) [] ≡ get_or (blob_at (history m l) v) p []
    page-found =
        let w = leaf_version (updates (history m l)) v p in
        let b = bounds in
        let s = (line-history L m S l there).versions w b.above (omega (arith, within)) in
        page-read L m S (version_at (history m l) w).ticket (p - (version_at (history m l) w).f) s.from s.upto b.slot (page-live L m S l there v p h r)
        ∙ rw (page-filled L (history m l) (line-history L m S l there) v p within r)

    listed : leaf_number m l (leaf_version (updates (history m l)) v p) p < length (page_list L m)
    listed = rw (list_length L m) number-within

    pub page-bytes : take L.size (drop (L.size * leaf_number m l (leaf_version (updates (history m l)) v p) p) (pages_image L m)) ≡ get_or (blob_at (history m l) v) p []
    page-bytes =
        rw (pages-list L m)
        (block-part L.size (page_list L m) (list-blocks L m S) (leaf_number m l (leaf_version (updates (history m l)) v p) p) listed ∙ page-found)

    -- A byte of it.
    pub page-byte : (j : ℕ) → j < L.size
        → get_or (pages_image L m) (L.size * leaf_number m l (leaf_version (updates (history m l)) v p) p + j) 0 ≡ get_or (get_or (blob_at (history m l) v) p []) j 0
    page-byte j q =
        rw (pages-list L m)
        (block-byte L.size (page_list L m) (list-blocks L m S) (leaf_number m l (leaf_version (updates (history m l)) v p) p) listed j q ∙ rw page-found)
