-- A version as it is compared stays: what it depends on, the versions up to it, their tickets' slots and their page numbers, does.
-- Assumes nothing.
use mathlib.Core.Path.{◌≡◌, refl, sym, ap, ◌∙◌}
use Prim.Native.Nat.{ℕ, zero, suc, ◌+◌, ◌-◌, ◌^◌, ◌≤◌, ◌<◌}
use native.Mathlib.Omega.{arith}
use mathlib.Core.List.{List}
use lib.ListN.{length}
use Rattle.tree.specs.Tree.{Update, update, newest, root_height, height_of}
use Rattle.tree.specs.Walk.{Numbers}
use Rattle.tree.proofs.Newest.{newest-le, newest-meets}
use Rattle.tree.proofs.Walk.{some-pages, last-in-root}
use Rattle.model.specs.History.{Version, pages_of, ticket_at, version_at, updates}
use Rattle.model.specs.Model.{Limits, Model, line_at, history}
use Rattle.model.specs.Layout.{slot_number, leaf_number}
use Rattle.model.specs.Snapshot.{tree_of, numbers_on, tree_at, snapshot_at}
use Rattle.model.proofs.Model.Sound.{Sound}
use Rattle.model.proofs.History.SoundHistory.{line-history, update-end}
use Rattle.model.proofs.Model.Shown.{versions-length}
use Rattle.model.proofs.History.Updates.{newest-same, f-at}
use Rattle.model.proofs.Calls.Grows.{Grown}
use Rattle.model.proofs.Area.LayoutLaws.{number-kept}
use Rattle.model.proofs.Calls.Older.{older-same}
use Rattle.model.proofs.History.Stay.{SameUpTo, update-stays, number-stays, blob-stays, stamps-stay}

-- Two lists of updates and two numberings, the same up to version k: of a leaf as far as its version has the page.
module _ (us ws : List Update) (N M : Numbers) (k : ℕ) (same : (v : ℕ) → v ≤ k → update us v ≡ update ws v) (codes : (v : ℕ) → v ≤ k → N.code v ≡ M.code v)
    (leaves : (v a : ℕ) → 0 < v → v ≤ k → (update us v).f ≤ a → a ≤ (update us v).last → N.leaf v a ≡ M.leaf v a) (seconds : (v a : ℕ) → N.second v a ≡ M.second v a) where
  -- Version v's update meets the pages from a on.
  abbrev Met : ℕ → ℕ → ℕ → Type 0
  Met h v a = 0 < v → ((update us v).f < a + 2 ^ h) × (a ≤ (update us v).last)

  pub tree-same : (h v : ℕ) → v ≤ k → (a : ℕ) → Met h v a → tree_of us N h v a ≡ tree_of ws M h v a
  unfolding tree_of
  tree-same zero zero p a z = refl
  tree-same zero (suc v) p a z =
      let y = z (omega arith) in
      rw (leaves (suc v) a (omega arith) p (omega (arith, y.0)) y.1, codes (suc v) p, seconds (suc v) a)
  tree-same (suc h) zero p a z = refl
  tree-same (suc h) (suc v) p a z =
      let l = newest-le us (suc v) a (2 ^ h) in
      let r = newest-le us (suc v) (a + 2 ^ h) (2 ^ h) in
      rw (
        tree-same h (newest us (suc v) a (2 ^ h)) (omega arith) a (λ o. newest-meets us (suc v) a (2 ^ h) o),
        tree-same h (newest us (suc v) (a + 2 ^ h) (2 ^ h)) (omega arith) (a + 2 ^ h) (λ o. newest-meets us (suc v) (a + 2 ^ h) (2 ^ h) o),
        codes (newest us (suc v) a (2 ^ h)) (omega arith),
        codes (newest us (suc v) (a + 2 ^ h) (2 ^ h)) (omega arith),
        codes (suc v) p,
        newest-same us ws k same (suc v) p a (2 ^ h),
        newest-same us ws k same (suc v) p (a + 2 ^ h) (2 ^ h),
      )

-- A line of a model that grew.
module _ (L : Limits) (m w : Model) (S : Sound L m) (g : Grown m w) (l : ℕ) (there : l < length m.lines) where
  abbrev last : ℕ
  last = length (line_at m l).shown

  same : SameUpTo (history w l) (history m l) last
  same = older-same L m w S g l there

  -- A page of a version keeps its number.
  leaf-stays : (v a : ℕ) → 0 < v → v ≤ last → (update (updates (history m l)) v).f ≤ a → a ≤ (update (updates (history m l)) v).last
      → leaf_number m l v a ≡ leaf_number w l v a
  leaf-stays v a o h x y =
      let H = line-history L m S l there in
      let n : v ≤ length (history m l).versions = omega (arith, versions-length m l) in
      let s = H.versions v o n in
      let u = version_at (history m l) v in
      let slot : a - u.f < pages_of (ticket_at (history m l) u.ticket) = omega (arith, update-end L (history m l) H v o n, f-at (history m l) v) in
      sym (ap (λ (z : Version). slot_number w z.ticket (a - z.f)) (same.versions v h) ∙ number-kept m w g u.ticket (a - u.f) s.from s.upto slot)

  root : (v : ℕ) → v ≤ last → 0 < v → ((update (updates (history m l)) v).f < 0 + 2 ^ height_of (updates (history m l)) v) × (0 ≤ (update (updates (history m l)) v).last)
  root v h o =
      let us = updates (history m l) in
      (omega (arith, some-pages us last (S.lines l there).accepted v o h, last-in-root us last (S.lines l there).accepted v o h), omega arith)

  tree-stays : (v : ℕ) → v ≤ last → tree_at w l v ≡ tree_at m l v
  tree-stays v h =
      let us = updates (history m l) in
      let ws = updates (history w l) in
      ap (λ (u : Update). tree_of ws (numbers_on w l) (root_height u.size) v 0) (update-stays (history w l) (history m l) last same v h)
      ∙ sym
      (tree-same us ws (numbers_on m l) (numbers_on w l) last (λ x z. sym (update-stays (history w l) (history m l) last same x z))
      (λ x z. sym (number-stays (history w l) (history m l) last same x z)) leaf-stays (λ x a. refl) (height_of us v) v h 0 (root v h))

  pub snapshot-stays : (v : ℕ) → v ≤ last → snapshot_at w l v ≡ snapshot_at m l v
  snapshot-stays v p =
      rw (
        tree-stays v p,
        blob-stays (history w l) (history m l) last same v p,
        stamps-stay (history w l) (history m l) last same v p (version_at (history w l) v).size,
        same.versions v p,
      )
