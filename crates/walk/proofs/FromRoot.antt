-- The walk from a version's root, and where it ends. Assumes nothing.

use Rattle.std.proofs.Common.{◌≡◌, ℕ, ◌-◌, ◌<◌, ◌≤◌, refl, sym, ◌∙◌, inl, inr, arith, pow_mono, le-ltb, lt-ltb, None, Some}
use Rattle.std.proofs.lemmas.Option.{same_Some}
use Rattle.tree.specs.Walk.{reach_by, visit, ends}
use Rattle.tree.specs.Contract.{root_in, height_in}
use Rattle.tree.proofs.Meets.{lt-or-le}
use Rattle.tree.proofs.Word.{root-in, height-in-low}
use Rattle.register.specs.Register.{version_part}
use Rattle.versions.specs.Store.{Areas}
use Rattle.descent.specs.Places.{place_at, leaf_place}
use Rattle.descent.proofs.Places.{place-zero, leaf-there, leaf-zero}
use Rattle.walk.specs.FindPage.{reach_from, find_page}

module _ (a : Areas) (c span p j : ℕ) where
  pub from-root : p < root_in span → reach_from a c span p j ≡ reach_by (place_at a.register) a.nodes j (height_in span - j) c p
  unfolding reach_from
  from-root l = rw (lt-ltb p (root_in span) l)

  pub from_past : root_in span ≤ p → reach_from a c span p j ≡ Some 0
  unfolding reach_from
  from_past l = rw (le-ltb p (root_in span) l)

-- ---- the end of a walk

module _ (a : Areas) (p : ℕ) where
  leaf-some : (d : ℕ) → (4096 ≤ p → d ≡ 0) → leaf_place (version_part a.register d) d p ≡ place_at a.register d p 0
  leaf-some d past = elim (lt-or-le p 4096) [
    | inl l ↦ leaf-there (version_part a.register d) d p l
    | inr l ↦ rw (past l) (leaf-zero (version_part a.register 0) p ∙ sym (place-zero a.register p 0))
  ]

  pub find_none : (c : ℕ) → None ≡ reach_from a c (version_part a.register c).span p 0 → None ≡ find_page a c p
  unfolding find_page
  find_none c e = rw (← e) refl

  pub find-some : (c d : ℕ) → Some d ≡ reach_from a c (version_part a.register c).span p 0 → ends d (visit a.nodes (leaf_place (version_part a.register d) d p)) ≡ find_page a c p
  unfolding find_page
  find-some c d e =
      let s = (version_part a.register c).span in
      let past : 4096 ≤ p → d ≡ 0 = λ l. same_Some d 0 (e ∙ from_past a c s p 0 (omega (arith, root-in s, pow_mono (height-in-low s)))) in
      rw (← e, leaf-some d past) refl
