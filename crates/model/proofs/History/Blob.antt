-- Version k's pages: how many there are, which update each is from, and how long each is.
-- Assumes nothing.
use Rattle.std.proofs.Common.{Option, None, Some}
use mathlib.Core.Path.{◌≡◌, refl, ap, ◌∙◌}
use mathlib.Core.List.{List, [], ◌++◌, append_assoc, map}
use Prim.Native.Nat.{ℕ, zero, suc, ◌+◌, ◌-◌, ◌*◌, ◌≤◌, ◌<◌, max}
use native.Mathlib.Omega.{arith}
use lib.ListN.{length, get_or, take, drop, length-append, length-take, length-drop, length-map, get_or-append, get_or-map}
use lib.Seq.{get_or-append-add, get_or-take, get_or-drop}
use Rattle.tree.specs.Walk.{leaf_version}
use Rattle.tree.proofs.Meets.{within, before, after}
use Rattle.tree.proofs.Newest.{sides, newest-within, newest-before, newest-after, newest-le, newest-meets}
use Rattle.tree.proofs.Walk.{covered}
use Rattle.model.specs.History.{Page, History, pages_of, ticket_at, version_at, updates}
use Rattle.model.specs.Model.{Limits}
use Rattle.model.specs.InTurn.{content, applied, blob_at, bytes_at}
use Rattle.model.proofs.Lists.Slots.{filled-slot}
use Rattle.model.proofs.Lists.Blocks.{Blocks, length-joined, page_byte}
use Rattle.model.proofs.Lists.Bytes.{bytes_by, blocks-range}
use Rattle.model.proofs.History.Updates.{f-at, size-at}
use Rattle.model.proofs.History.SoundHistory.{SoundHistory, update-end, version-starts, version-grows}

-- ---- new pages over a part of a blob

module _ (blob : List Page) (f : ℕ) (new : List Page) (starts : f ≤ length blob) where
  pub applied-length : length (applied blob f new) ≡ max (length blob) (f + length new)
  unfolding applied
  applied-length = simp (length-append, length-take, length-drop) (omega arith)

  front : length (take f blob) ≡ f
  front = rw length-take (omega arith)

  pub applied-before : (p : ℕ) → p < f → get_or (applied blob f new) p [] ≡ get_or blob p []
  unfolding applied
  applied-before p q = rw append_assoc
      (get_or-append (take f blob) (new ++ drop (f + length new) blob) [] p (omega (arith, front)) ∙ get_or-take f blob p [] q)

  shift : (i : ℕ) → get_or (applied blob f new) (f + i) [] ≡ get_or (new ++ drop (f + length new) blob) i []
  unfolding applied
  shift i = rw append_assoc (rw front at (get_or-append-add (take f blob) (new ++ drop (f + length new) blob) i []))

  pub applied-within : (p : ℕ) → f ≤ p → p < f + length new → get_or (applied blob f new) p [] ≡ get_or new (p - f) []
  applied-within p q r =
      let e : p ≡ f + (p - f) = omega arith in
      ap (λ (n : ℕ). get_or (applied blob f new) n []) e ∙ shift (p - f) ∙ get_or-append new (drop (f + length new) blob) [] (p - f) (omega arith)

  pub applied-after : (p : ℕ) → f + length new ≤ p → get_or (applied blob f new) p [] ≡ get_or blob p []
  applied-after p q =
      let i = p - (f + length new) in
      let e : p ≡ f + (length new + i) = omega arith in
      let g : f + length new + i ≡ p = omega arith in
      ap (λ (n : ℕ). get_or (applied blob f new) n []) e
      ∙ shift (length new + i)
      ∙ get_or-append-add new (drop (f + length new) blob) i []
      ∙ get_or-drop (f + length new) blob i []
      ∙ ap (λ (n : ℕ). get_or blob n []) g

-- ---- the blob

-- The pages of version v as its ticket has them, and the slot that page p of version k is from.
abbrev pub slots_of : History → ℕ → List (Option Page)
slots_of h v = (ticket_at h (version_at h v).ticket).slots

abbrev pub slot_of : History → ℕ → ℕ → Option Page
slot_of h k p = let w = leaf_version (updates h) k p in get_or (slots_of h w) (p - (version_at h w).f) None

-- The version that page p of version k is from, the newest up to k that covers it: its pages reach p, in a slot of its ticket.
pub record LeafBounds (h : History) (k p : ℕ) : Type 0 where
  pub above : 0 < leaf_version (updates h) k p
  pub upto : leaf_version (updates h) k p ≤ k
  pub from : (version_at h (leaf_version (updates h) k p)).f ≤ p
  pub slot : p - (version_at h (leaf_version (updates h) k p)).f < pages_of (ticket_at h (version_at h (leaf_version (updates h) k p)).ticket)

module _ (L : Limits) (h : History) (sound : SoundHistory L h) where
  pub blob-length : (k : ℕ) → k ≤ length h.versions → length (blob_at h k) ≡ (version_at h k).size
  unfolding blob_at
  blob-length zero q = refl
  blob-length (suc k) q =
      let e = blob-length k (omega arith) in
      rw (applied-length (blob_at h k) (version_at h (suc k)).f (map content (slots_of h (suc k))) (omega (arith, version-starts L h sound k q)), e, length-map, version-grows L h sound k q)

  -- Page p of version k is the slot of the newest version that covers it.
  pub blob-page : (k p : ℕ) → k ≤ length h.versions → p < (version_at h k).size → get_or (blob_at h k) p [] ≡ content (slot_of h k p)
  unfolding blob_at
  blob-page zero p q r = absurd (omega arith)
  blob-page (suc k) p q r =
      let b = blob_at h k in
      let f = (version_at h (suc k)).f in
      let xs = slots_of h (suc k) in
      let new = map content xs in
      let n = length-map xs content in
      let e = blob-length k (omega arith) in
      let s : f ≤ length b = omega (arith, version-starts L h sound k q) in
      let g = f-at h (suc k) in
      let l = update-end L h sound (suc k) (omega arith) q in
      elim (sides (updates h) k p 1) [
        | within t u ↦
            rw (newest-within (updates h) k p 1 t u, applied-within b f new s p (omega arith) (omega arith)) (get_or-map content xs (p - f) None)
        | before t ↦
            rw (newest-before (updates h) k p 1 t, applied-before b f new s p (omega arith)) (blob-page k p (omega arith) (omega arith))
        | after t ↦
            rw (newest-after (updates h) k p 1 t, applied-after b f new s p (omega arith)) (blob-page k p (omega arith) (omega (arith, version-grows L h sound k q)))
      ]

  module _ (k p : ℕ) (q : k ≤ length h.versions) (r : p < (version_at h k).size) where
    pub leaf-bounds : LeafBounds h k p
    leaf-bounds =
        let w = leaf_version (updates h) k p in
        let o = covered (updates h) k (λ v t. sound.accepted v (omega arith)) k p (omega arith) (rw size-at r) in
        let le = newest-le (updates h) k p 1 in
        let c = newest-meets (updates h) k p 1 o in
        let g = f-at h w in
        let l = update-end L h sound w o (omega arith) in
        record { above = o; upto = le; from = omega arith; slot = omega arith }

    -- That slot is filled, by the page.
    pub page-filled : slot_of h k p ≡ Some (get_or (blob_at h k) p [])
    page-filled =
        let w = leaf_version (updates h) k p in
        let b = leaf-bounds in
        let s = sound.versions w b.above (omega arith) in
        rw (blob-page k p q r) (filled-slot (slots_of h w) s.puts (p - (version_at h w).f) b.slot)

    -- Every page is S bytes long.
    pub page-size : length (get_or (blob_at h k) p []) ≡ L.size
    page-size =
        let w = leaf_version (updates h) k p in
        let b = leaf-bounds in
        let s = sound.versions w b.above (omega arith) in
        (sound.tickets (version_at h w).ticket s.from s.upto).bytes (p - (version_at h w).f) (get_or (blob_at h k) p []) page-filled

    pub page-some : get_or (blob_at h k) p [] ≡ [] → ⊥
    page-some e = omega (arith, page-size, sound.allowed.some_page, ap length e)

  pub blob-pages : (k : ℕ) → k ≤ length h.versions → Blocks L.size (blob_at h k)
  blob-pages k q i r = page-size k i q (rw (← blob-length k q) r)

  pub bytes-length : (k : ℕ) → k ≤ length h.versions → length (bytes_at h k) ≡ L.size * (version_at h k).size
  bytes-length k q = rw (length-joined L.size (blob_at h k) (blob-pages k q), blob-length k q)

  -- A range of the bytes, byte by byte of its page.
  pub bytes-range : (k off len : ℕ) → k ≤ length h.versions → off + len ≤ L.size * (version_at h k).size
      → take len (drop off (bytes_at h k)) ≡ bytes_by (page_byte L.size (blob_at h k)) off len
  bytes-range k off len q r = blocks-range L.size (blob_at h k) (blob-pages k q) sound.allowed.some_page off len (rw (blob-length k q) r)
