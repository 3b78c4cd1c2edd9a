-- A page's stamp: the lowest version since which the page has had its bytes, and the same in a version as in that of the page's leaf.
-- Assumes nothing.
use mathlib.Core.Path.{◌≡◌, refl, sym, ◌∙◌}
use mathlib.Core.Logic.{◌⊎◌, inl, inr}
use mathlib.Core.Bool.{Bool, true, false, and-eq-true_iff, false≢true}
use mathlib.Core.List.{[]}
use Prim.Native.Nat.{ℕ, zero, suc, ◌≤◌, ◌<◌}
use native.Mathlib.Omega.{arith}
use borrow.Author.Tests.{ltb-true, lt-ltb}
use lib.Dec.{ltb}
use lib.ListN.{length, get_or}
use Rattle.text.proofs.Same.{same_true, same_refl}
use Rattle.tree.specs.Walk.{leaf_version}
use Rattle.tree.proofs.Meets.{lt-or-le, within, before, after}
use Rattle.tree.proofs.Newest.{sides, newest-within, newest-before, newest-after}
use Rattle.model.specs.History.{History, version_at, updates}
use Rattle.model.specs.InTurn.{blob_at}
use Rattle.model.specs.Model.{Limits}
use Rattle.model.specs.Stamp.{stays, stamp_at, SameFrom, LowestSame}
use Rattle.model.proofs.History.Updates.{f-at}
use Rattle.model.proofs.History.SoundHistory.{SoundHistory, update-end, version-starts, version-grows}
use Rattle.model.proofs.History.Blob.{blob-length, blob-page}

pub test-cases : (b : Bool) → (b ≡ true) ⊎ (b ≡ false)
test-cases true = inl refl
test-cases false = inr refl

-- A stamp depends on the blobs up to its version alone.
pub stamp-by-blobs : (h w : History) (v : ℕ) → ((u : ℕ) → u ≤ v → blob_at h u ≡ blob_at w u) → (p : ℕ) → stamp_at h v p ≡ stamp_at w v p
unfolding stamp_at
stamp-by-blobs h w zero same p = refl
stamp-by-blobs h w (suc v) same p = rw (same v (omega arith), same (suc v) (omega arith), stamp-by-blobs h w v (λ u q. same u (omega arith)) p)

-- ---- one version and the next

module _ (h : History) (v p : ℕ) where
  pub stays-inside : stays h v p ≡ true → p < length (blob_at h v)
  stays-inside e = ltb-true p (length (blob_at h v)) ((and-eq-true_iff (ltb p (length (blob_at h v))) _).0 e).0

  pub stays-alike : stays h v p ≡ true → get_or (blob_at h v) p [] ≡ get_or (blob_at h (suc v)) p []
  stays-alike e = same_true _ _ ((and-eq-true_iff (ltb p (length (blob_at h v))) _).0 e).1

  pub stays_by : p < length (blob_at h v) → get_or (blob_at h v) p [] ≡ get_or (blob_at h (suc v)) p [] → stays h v p ≡ true
  stays_by q e = rw (lt-ltb p (length (blob_at h v)) q, e, same_refl (get_or (blob_at h (suc v)) p []))

  pub stamp-on : stays h v p ≡ true → stamp_at h (suc v) p ≡ stamp_at h v p
  unfolding stamp_at
  stamp-on e = rw e

  pub stamp-first : stays h v p ≡ false → stamp_at h (suc v) p ≡ suc v
  unfolding stamp_at
  stamp-first e = rw e

pub stamp-upto : (h : History) (v p : ℕ) → stamp_at h v p ≤ v
unfolding stamp_at
stamp-upto h zero p = omega arith
stamp-upto h (suc v) p = elim (test-cases (stays h v p)) [
  | inl e ↦ rw (stamp-on h v p e) (omega (arith, stamp-upto h v p))
  | inr e ↦ rw (stamp-first h v p e) (omega arith)
]

-- In the version before the stamp the page is not there, or has other bytes.
pub stamp-before : (h : History) (v p w : ℕ) → stamp_at h v p ≡ suc w → stays h w p ≡ false
unfolding stamp_at
stamp-before h zero p w e = absurd (omega arith)
stamp-before h (suc v) p w e = elim (test-cases (stays h v p)) [
  | inl t ↦ stamp-before h v p w (sym (stamp-on h v p t) ∙ e)
  | inr t ↦ let g : w ≡ v = omega (arith, e, stamp-first h v p t) in rw g t
]

-- ---- the lowest version

module _ (h : History) (v p : ℕ) where
  from_itself : p < length (blob_at h v) → SameFrom h v v p
  from_itself q = record {
    upto = omega arith;
    inside = λ u a b. let e : u ≡ v = omega arith in rw e q;
    alike = λ u a b. let e : u ≡ v = omega arith in rw e;
  }

  module _ (w : ℕ) where
    -- To one version more, in which the page stays, and back.
    from_more : stays h v p ≡ true → p < length (blob_at h (suc v)) → SameFrom h w v p → SameFrom h w (suc v) p
    from_more e q s = record {
      upto = omega (arith, s.upto);
      inside = λ u a b. elim (lt-or-le u (suc v)) [
        | inl l ↦ s.inside u a (omega arith)
        | inr l ↦ let e : u ≡ suc v = omega arith in rw e q
      ];
      alike = λ u a b. elim (lt-or-le u (suc v)) [
        | inl l ↦ s.alike u a (omega arith) ∙ stays-alike h v p e
        | inr l ↦ let e : u ≡ suc v = omega arith in rw e
      ];
    }

    from_less : w ≤ v → SameFrom h w (suc v) p → SameFrom h w v p
    from_less l s = record {
      upto = l;
      inside = λ u a b. s.inside u a (omega arith);
      alike = λ u a b. s.alike u a (omega arith) ∙ sym (s.alike v l (omega arith));
    }

    from-stays : w ≤ v → SameFrom h w (suc v) p → stays h v p ≡ true
    from-stays l s = stays_by h v p (s.inside v l (omega arith)) (s.alike v l (omega arith))

-- The stamp is the lowest version from which on, up to v, the page is there with the same bytes.
pub stamp-lowest : (h : History) (v p : ℕ) → p < length (blob_at h v) → LowestSame h (stamp_at h v p) v p
unfolding blob_at
stamp-lowest h zero p q = absurd (omega arith)
stamp-lowest h (suc v) p q = elim (test-cases (stays h v p)) [
  | inl e ↦
      let r = stamp-lowest h v p (stays-inside h v p e) in
      rw (stamp-on h v p e) (record {
        from = from_more h v p (stamp_at h v p) e q r.from;
        lowest = λ u s. elim (lt-or-le v u) [
          | inl l ↦ omega (arith, stamp-upto h v p)
          | inr l ↦ r.lowest u (from_less h v p u l s)
        ];
      })
  | inr e ↦
      rw (stamp-first h v p e) (record {
        from = from_itself h (suc v) p q;
        lowest = λ u s. elim (lt-or-le v u) [
          | inl l ↦ omega arith
          | inr l ↦ absurd (false≢true (sym e ∙ from-stays h v p u l s))
        ];
      })
]

-- ---- a sound history

module _ (L : Limits) (h : History) (sound : SoundHistory L h) where
  -- A page whose leaf is the one in the version before stays.
  leaf-kept : (v p : ℕ) → v < length h.versions → p < (version_at h v).size → p < (version_at h (suc v)).size
      → leaf_version (updates h) (suc v) p ≡ leaf_version (updates h) v p → stays h v p ≡ true
  leaf-kept v p q r s e = stays_by h v p (rw (blob-length L h sound v (omega arith)) r)
      (blob-page L h sound v p (omega arith) r ∙ sym (blob-page L h sound (suc v) p q s ∙ rw e))

  -- No update between the leaf's version and v covers the page, so the stamp is that in the leaf's version.
  pub stamp-leaf : (v p : ℕ) → v ≤ length h.versions → p < (version_at h v).size → stamp_at h v p ≡ stamp_at h (leaf_version (updates h) v p) p
  stamp-leaf zero p q r = absurd (omega arith)
  stamp-leaf (suc v) p q r =
      let f = f-at h (suc v) in
      let l = update-end L h sound (suc v) (omega arith) q in
      let s = version-starts L h sound v q in
      let g = version-grows L h sound v q in
      elim (sides (updates h) v p 1) [
        | within t u ↦ rw (newest-within (updates h) v p 1 t u)
        | before t ↦
            let i : p < (version_at h v).size = omega arith in
            let e = newest-before (updates h) v p 1 t in
            rw e (stamp-on h v p (leaf-kept v p q i r e) ∙ stamp-leaf v p (omega arith) i)
        | after t ↦
            let i : p < (version_at h v).size = omega arith in
            let e = newest-after (updates h) v p 1 t in
            rw e (stamp-on h v p (leaf-kept v p q i r e) ∙ stamp-leaf v p (omega arith) i)
      ]
