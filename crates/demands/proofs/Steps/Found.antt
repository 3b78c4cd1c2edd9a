-- The walk on a model's image: it ends at the leaf of the newest version that covers the page, and its page number is that version's.
-- Assumes nothing.
use Rattle.std.proofs.Common.{Some}
use mathlib.Core.Path.{◌≡◌, sym, ap, ◌∙◌}
use mathlib.Core.Bool.{true, ◌&&◌}
use mathlib.Core.List.{[]}
use Prim.Native.Nat.{ℕ, suc, pred, ◌+◌, ◌-◌, ◌*◌, ◌%◌, ◌^◌, ◌≤◌, ◌<◌}
use native.Mathlib.Omega.{arith}
use borrow.Author.Tests.{lt-ltb, le-leb, eq-eqb}
use lib.Dec.{leb}
use lib.ListN.{length, get_or}
use lib.Pow.{pow_mono}
use Rattle.pages.specs.Pages.{part}
use Rattle.tree.specs.Tree.{Update, meets, update, root_height, height_of}
use Rattle.tree.specs.Place.{first, index, halvings}
use Rattle.tree.specs.Walk.{has_node, leaf_version, reach_by, leaf_of, leaf_at}
use Rattle.tree.specs.Contract.{root_span, root_in, height_in}
use Rattle.tree.proofs.First.{first-le}
use Rattle.tree.proofs.Halved.{halved-small, index-halved}
use Rattle.tree.proofs.Meets.{meets-within}
use Rattle.tree.proofs.Reach.{walk-reach}
use Rattle.tree.proofs.Root.{root-low}
use Rattle.tree.proofs.Word.{root-in-power, height-in-power}
use Rattle.tree.proofs.Walk.{node-has, size-in-root}
use Rattle.register.specs.Register.{part_of, update_of, version_part}
use Rattle.register.specs.declared.Part.{Part}
use Rattle.descent.specs.Places.{has_node_by, place_by_part, place_in, place_at}
use Rattle.descent.proofs.Places.{place-zero}
use Rattle.walk.specs.FindPage.{find_page, number_within, page_number_of}
use Rattle.walk.proofs.FromRoot.{from-root}
use Rattle.model.specs.History.{version_at, to_update, updates}
use Rattle.model.specs.InTurn.{blob_at}
use Rattle.model.specs.Model.{Limits, Model, line_at, update_at, history, number_in}
use Rattle.model.specs.Layout.{node_stands, node_place, leaf_number}
use Rattle.model.specs.Snapshot.{place_of_number}
use Rattle.model.proofs.Area.Image.{page_list, pages_image, nodes_image}
use Rattle.model.proofs.Area.LayoutLaws.{stands-every, stands-few, place-from, place-room, pages-list, list_length, list-blocks}
use Rattle.model.proofs.Model.Sound.{Sound}
use Rattle.model.proofs.Model.Facts.{shown-small}
use Rattle.model.proofs.History.Updates.{size-at}
use Rattle.model.proofs.Model.Shown.{shown_at, update-shown}
use Rattle.model.proofs.Line.Numbers.{number-some, number-low, number-place}
use Rattle.model.proofs.Area.Woven.{published-upto}
use Rattle.model.proofs.Area.Found.{some-version, Places, walk-found, number-within, page-found}
use Rattle.demands.proofs.Image.{record_image, register_image, areas_image}
use Rattle.demands.proofs.Records.{update-image, span-image, span-power, past-image, top-image}
use Rattle.demands.proofs.Lines.{version-found, name-shown}
use Rattle.demands.proofs.Blocks.{block-part}

-- The sum in 64 bits is the place: nothing is lost, since places, heights and halvings are small.
place-sums : (place height j x : ℕ) → j ≤ height → height ≤ 12 → place ≤ 131072 → x ≤ 8192 → (place + height + (2 ^ 64 - j) + x) % 2 ^ 64 ≡ place + ((height - j) + x)
place-sums place height j x a b c d = omega arith

module _ (L : Limits) (m : Model) (S : Sound L m) (l : ℕ) (there : l < length m.lines) where
  module _ (v : ℕ) (o : 0 < v) (h : v ≤ length (line_at m l).shown) where
    abbrev code : ℕ
    code = number_in (history m l) v

    -- What the record of the version's number says.
    pub part-found : version_part (register_image L m) code ≡ part_of (record_image m (pred (shown_at m l v)))
    part-found = ap part_of (version-found L m S l v there o h)

    -- The update that it says is the line's.
    pub update_found : update_of (part_of (record_image m (pred (shown_at m l v)))) ≡ update (updates (history m l)) v
    update_found =
        update-image L m S (shown_at m l v) ((S.lines l there).some v o h) ((S.lines l there).most v o h) ∙ sym (update-shown m l v)

    -- Its span is that of the version's root, and its height no higher than that of the largest blob.
    pub span-found : (version_part (register_image L m) code).span ≡ 2 ^ height_of (updates (history m l)) v
    span-found =
        ap (λ (q : Part). q.span) part-found
        ∙ span-image L m S (shown_at m l v) ((S.lines l there).some v o h) ((S.lines l there).most v o h)
        ∙ span-power L m S (shown_at m l v) ((S.lines l there).some v o h) ((S.lines l there).most v o h)
        ∙ sym (ap (λ (u : Update). 2 ^ root_height u.size) (update-shown m l v))

    pub height-low : height_of (updates (history m l)) v ≤ 12
    height-low = root-low (update (updates (history m l)) v).size (rw (update-shown m l v) (shown-small L m S l there v h))

    module _ (p j : ℕ) (e : has_node (update (updates (history m l)) v) p j ≡ true)
        (s : let us = updates (history m l) in node_stands m (shown_at m l v) (index (update us v).f (update us v).last 0 (height_of us v) p j) ≡ true) where
      abbrev its : ℕ
      its = shown_at m l v

      some-update : 0 < its
      some-update = (S.lines l there).some v o h

      most-update : its ≤ length m.updates
      most-update = (S.lines l there).most v o h

      has-shown : has_node (to_update m.tickets (update_at m its)) p j ≡ true
      has-shown = rw (← update-shown m l v) e

      it-stands : let u = to_update m.tickets (update_at m its) in node_stands m its (index u.f u.last 0 (root_height u.size) p j) ≡ true
      it-stands = ap (λ (u : Update). node_stands m its (index u.f u.last 0 (root_height u.size) p j)) (sym (update-shown m l v)) ∙ s

      -- By what the record says the version has the node.
      has-found : has_node_by (part_of (record_image m (pred its))) p j ≡ true
      unfolding has_node_by
      has-found =
          let u = to_update m.tickets (update_at m its) in
          let n = node-has u p j has-shown in
          let same : suc (pred its) ≡ its = omega (arith, some-update) in
          ap (λ (k : ℕ). leb (2 ^ j) (root_span (update_at m k).size) && meets (update_at m k).f (to_update m.tickets (update_at m k)).last (first p j) (2 ^ j)) same
          ∙ rw (span-power L m S its some-update most-update, le-leb (2 ^ j) (2 ^ root_height u.size) (pow_mono n.0), meets-within u.f u.last (first p j) (2 ^ j) n.2 n.3)

      -- And its place.
      sum-found : place_by_part (part_of (record_image m (pred its))) p j
          ≡ node_place m its (index (update_at m its).f (to_update m.tickets (update_at m its)).last 0 (root_height (update_at m its).size) p j)
      sum-found =
          let u = to_update m.tickets (update_at m its) in
          let n = node-has u p j has-shown in
          let low = root-low u.size (S.updated its some-update most-update).upward in
          let x = halvings (first p j) - halvings u.f in
          let few : x ≤ 8192 = omega (arith, halved-small (first p j), first-le p j, n.1, pow_mono low) in
          let i = index u.f u.last 0 (root_height u.size) p j in
          let from = place-from m its i (λ n z. stands-every m its n (omega (arith, stands-few m its i it-stands))) in
          let near : node_place m its 0 ≤ 131072 = omega (arith, from, place-room L m S its i some-update most-update it-stands, S.allowed.nodes) in
          rw (
            from,
            top-image L m S its some-update most-update,
            past-image L m S its some-update most-update,
            index-halved u.f u.last (root_height u.size) p j n.0 n.1 n.3,
          )
          (place-sums (node_place m its 0) (root_height u.size) j x n.0 low near few)

      -- The walk places the version's nodes where they lie.
      pub place_found : place_at (register_image L m) code p j ≡ place_of_number m code p j
      unfolding place_in
      place_found =
          ap (λ (q : Part). place_in q code p j) part-found
          ∙ rw (
            lt-ltb 0 code (number-some L m S l v there o h),
            lt-ltb code (2 ^ 64 - 1) (omega (arith, number-low L m S l v there o h)),
            eq-eqb (record_image m (pred its)).name code (name-shown L m S l v there o h),
            has-found,
            number-place L m S l v there o h p j,
            lt-ltb 0 its some-update,
            has-shown,
          )
          (ap Some sum-found)

  module _ (v p : ℕ) (h' : v ≤ (line_at m l).published) (r : p < (version_at (history m l) v).size) where
    above : 0 < v
    above = some-version m l v p r

    upto : v ≤ length (line_at m l).shown
    upto = published-upto L m S l there v h'

    places : Places L m S l there (place_at (register_image L m)) v
    places w q j o k e s = place_found w o (omega (arith, upto)) q j e s

    -- The walk on the image.
    pub find-page : find_page (areas_image L m) (number_in (history m l) v) p
        ≡ leaf_at
        (number_in (history m l) (leaf_version (updates (history m l)) v p))
        (leaf_number m l (leaf_version (updates (history m l)) v p) p)
    unfolding find_page
    find-page =
        let us = updates (history m l) in
        let at = place_at (register_image L m) in
        let area = nodes_image L m in
        let c = number_in (history m l) v in
        let h = height_of us v in
        let low = height-low v above upto in
        let root : root_in (2 ^ h) ≡ 2 ^ h = root-in-power h low in
        let down : height_in (2 ^ h) - 0 ≡ h = omega (arith, height-in-power h low) in
        let inside : p < 2 ^ h = omega (arith, size-in-root us v, size-at (history m l) v) in
        rw (span-found v above upto)
        (ap (leaf_of at area p) (from-root (areas_image L m) c (2 ^ h) p 0 (rw root inside) ∙ ap (λ (n : ℕ). reach_by at area 0 n c p) down)
        ∙ sym (walk-reach at area h c p (place-zero (register_image L m)))
        ∙ walk-found L m S l there at v h' places p r)

    pub page-number : page_number_of L.pages (areas_image L m) (number_in (history m l) v) p ≡ Some (leaf_number m l (leaf_version (updates (history m l)) v p) p)
    unfolding page_number_of
    page-number =
        rw (
          find-page,
          lt-ltb (leaf_number m l (leaf_version (updates (history m l)) v p) p) L.pages (number-within L m S l there v p upto r),
          number_within,
        )

    -- The bytes there are the page's.
    pub view-bytes : part (pages_image L m) (L.size * leaf_number m l (leaf_version (updates (history m l)) v p) p) L.size ≡ get_or (blob_at (history m l) v) p []
    view-bytes =
        rw (pages-list L m)
        (block-part L.size (page_list L m) (list-blocks L m S) (leaf_number m l (leaf_version (updates (history m l)) v p) p)
        (rw (list_length L m) (number-within L m S l there v p upto r))
        ∙ page-found L m S l there v p upto r)
