-- The way down the versions that cover a page, on a model's image: it ends at the model's stamp.
-- Assumes nothing.
use mathlib.Core.Path.{◌≡◌, sym, ap, ◌∙◌}
use mathlib.Core.Logic.{inl, inr}
use mathlib.Core.Bool.{Bool, true, false}
use mathlib.Core.List.{[]}
use Prim.Native.Nat.{ℕ, zero, suc, ◌-◌, ◌*◌, ◌%◌, ◌≤◌, ◌<◌}
use native.Mathlib.Omega.{arith}
use borrow.Author.Tests.{lt-ltb, le-ltb}
use lib.ListN.{length, get_or}
use Rattle.text.specs.Text.{pick}
use Rattle.pages.specs.Pages.{part}
use Rattle.tree.specs.Walk.{leaf_version, leaf_at}
use Rattle.tree.proofs.Meets.{lt-or-le}
use Rattle.table.proofs.Table.{none, hit, skip, first}
use Rattle.versions.specs.Store.{number_on, part_on}
use Rattle.walk.specs.FindPage.{find_page, page_number_of, is_lost}
use Rattle.stamp.specs.Stamp.{page_refusal, leaf_as_of, same_below, on_from, since_by, since}
use Rattle.model.specs.History.{History, version_at, updates}
use Rattle.model.specs.InTurn.{blob_at}
use Rattle.model.specs.Stamp.{stays, stamp_at}
use Rattle.model.specs.Model.{Limits, Model, history, number_in}
use Rattle.model.specs.Layout.{leaf_number}
use Rattle.model.proofs.Area.Image.{pages_image}
use Rattle.model.proofs.Model.Sound.{Sound}
use Rattle.model.proofs.History.SoundHistory.{line-history}
use Rattle.model.proofs.Model.Shown.{versions-length}
use Rattle.model.proofs.History.Blob.{LeafBounds, leaf-bounds}
use Rattle.model.proofs.Line.Numbers.{number-version}
use Rattle.model.proofs.Line.Since.{line-blob-length, stamp-published}
use Rattle.model.proofs.History.Stamps.{test-cases, stamp-upto, stamp-first, stamp-on, stamp-leaf}
use Rattle.model.proofs.Area.Woven.{published-upto}
use Rattle.demands.proofs.Image.{store_image, areas_image}
use Rattle.demands.proofs.Lines.{number-on}
use Rattle.demands.proofs.Steps.Found.{find-page, page-number, view-bytes}
use Rattle.demands.proofs.Steps.Size.{name-there, pages-in}
use Rattle.std.proofs.Common.{Option, None}
use Rattle.tree.specs.declared.Leaf.{Leaf}

module _ (L : Limits) (m : Model) (S : Sound L m) (l : ℕ) (there : l < length m.lines) (p : ℕ) where
  abbrev h : History
  h = history m l

  -- Page n of the page area has the bytes of the page in version v.
  abbrev Has : ℕ → ℕ → Type 0
  Has n v = part (pages_image L m) (L.size * n) L.size ≡ get_or (blob_at h v) p []

  -- A page that version v does not have.
  none-as-of : (v : ℕ) → v ≤ h.published → (version_at h v).size ≤ p → leaf_as_of (store_image L m) (areas_image L m) l v p ≡ None
  unfolding leaf_as_of
  none-as-of v q r =
      let s = store_image L m in
      let a = areas_image L m in
      let c = number_on s l v in
      let w = published-upto L m S l there v q in
      let z : page_refusal L.pages (part_on s a l v) c v p (find_page a c p) ≡ 17 =
      sym (first (hit (name-there L m S l there v w, omega (arith, pages-in L m S l there v w)))) in
      rw z

  -- ---- a page that it has

  module _ (v : ℕ) (q : v ≤ h.published) (r : p < (version_at h v).size) where
    abbrev pub newest : ℕ
    newest = leaf_version (updates h) v p

    abbrev found : Option Leaf
    found = leaf_at (number_in h newest) (leaf_number m l newest p)

    upto : v ≤ length h.versions
    upto = omega (arith, published-upto L m S l there v q, versions-length m l)

    bounds : LeafBounds h v p
    bounds = leaf-bounds L h (line-history L m S l there) v p upto r

    its-version : number_in h newest % 65536 ≡ newest
    its-version = number-version L m S l newest there bounds.above (omega (arith, bounds.upto, published-upto L m S l there v q))

    found-as-of : leaf_as_of (store_image L m) (areas_image L m) l v p ≡ found
    unfolding leaf_as_of page_number_of
    found-as-of =
        let s = store_image L m in
        let a = areas_image L m in
        let c = number_on s l v in
        let w = published-upto L m S l there v q in
        let lost : is_lost (page_number_of L.pages a c p) ≡ false = rw (number-on L m S l there v w, page-number L m S l there v p q r) in
        let z : page_refusal L.pages (part_on s a l v) c v p (find_page a c p) ≡ 0 =
        sym (first (skip (inr (omega (arith, pages-in L m S l there v w))) (skip (name-there L m S l there v w, lost) none))) in
        rw (z, number-on L m S l there v w) (find-page L m S l there v p q r)

    -- Whether the way goes on to its leaf from a page with the bytes of version v + 1 is the model's test.
    goes-on : (n : ℕ) → Has n (suc v)
        → same_below (pages_image L m) L.size (suc v) n (leaf_as_of (store_image L m) (areas_image L m) l v p) ≡ pick (stays h v p) found None
    goes-on n bytes =
        rw (
          found-as-of,
          its-version,
          lt-ltb newest (suc v) (omega (arith, bounds.upto)),
          lt-ltb p (length (blob_at h v)) (omega (arith, line-blob-length L m S l there v q)),
          view-bytes L m S l there v p q r,
          bytes,
        )

    -- The stamp is that in the leaf's version, whose page is the leaf's.
    pub stamp-there : stamp_at h newest p ≡ stamp_at h v p
    stamp-there = sym (stamp-leaf L h (line-history L m S l there) v p upto r)

    pub bytes-there : Has (leaf_number m l newest p) newest
    bytes-there =
        let g = stamp-published L m S l there v q p r in
        view-bytes L m S l there v p q r ∙ sym (g.from.alike newest (omega (arith, stamp-there, stamp-upto h newest p)) bounds.upto)

  -- ---- all steps

  -- From a version w, whose page has the bytes of page n, enough steps come to its stamp.
  since-image : (i w n : ℕ) → w ≤ i → 0 < w → w ≤ h.published → Has n w → since_by (store_image L m) (areas_image L m) l p i w n ≡ stamp_at h w p
  unfolding since_by
  since-image zero w n few o q bytes = absurd (omega arith)
  since-image (suc i) zero n few o q bytes = absurd (omega arith)
  since-image (suc i) (suc v) n few o q bytes =
      let s = store_image L m in
      let a = areas_image L m in
      let x = leaf_version (updates h) v p in
      let below : v ≤ h.published = omega arith in
      let before : suc v - 1 ≡ v = omega arith in
      let next : Option Leaf → ℕ = λ y. on_from (suc v) y (λ w k. since_by s a l p i w k) in
      let step : Option Leaf → ℕ = λ y. next (same_below (pages_image L m) L.size (suc v) n y) in
      ap (λ (u : ℕ). step (leaf_as_of s a l u p)) before
      ∙ elim (lt-or-le p (version_at h v).size) [
        | inl r ↦
            let b = bounds v below r in
            let tested : (t : Bool) → stays h v p ≡ t → step (leaf_as_of s a l v p) ≡ next (pick t (found v below r) None) =
            λ t e. ap next (goes-on v below r n bytes ∙ ap (λ (y : Bool). pick y (found v below r) None) e) in
            elim (test-cases (stays h v p)) [
              | inl e ↦
                  tested true e
                  ∙ ap (λ (w : ℕ). since_by s a l p i w (leaf_number m l x p)) (its-version v below r)
                  ∙ since-image i x (leaf_number m l x p) (omega (arith, b.upto)) b.above (omega (arith, b.upto)) (bytes-there v below r)
                  ∙ stamp-there v below r
                  ∙ sym (stamp-on h v p e)
              | inr e ↦ tested false e ∙ sym (stamp-first h v p e)
            ]
        | inr r ↦
            let e : stays h v p ≡ false = rw (le-ltb p (length (blob_at h v)) (omega (arith, line-blob-length L m S l there v below))) in
            ap step (none-as-of v below r) ∙ sym (stamp-first h v p e)
      ]

  -- From the leaf of version v.
  pub since-leaf : (v : ℕ) → v ≤ h.published → p < (version_at h v).size
      → since (store_image L m) (areas_image L m) l p (leaf_version (updates h) v p) (leaf_number m l (leaf_version (updates h) v p) p) ≡ stamp_at h v p
  since-leaf v q r =
      let x = leaf_version (updates h) v p in
      let b = bounds v q r in
      since-image x x (leaf_number m l x p) (omega arith) b.above (omega (arith, b.upto)) (bytes-there v q r) ∙ stamp-there v q r
