-- The search for the version since which a page has its bytes: each step goes to a lower version, so that there are always steps enough.
-- Assumes nothing.
use mathlib.Core.Path.{◌≡◌, refl, sym}
use mathlib.Core.Bool.{Bool, true, false, ◌&&◌, and-eq-true_iff}
use mathlib.Core.List.{List}
use Prim.Native.Nat.{ℕ, zero, suc, ◌-◌, ◌*◌, ◌≤◌, ◌<◌}
use native.Mathlib.Omega.{arith}
use borrow.Author.Tests.{ltb-true, le-ltb}
use lib.Dec.{ltb}
use Rattle.text.specs.Text.{pick, same}
use Rattle.pages.specs.Pages.{part}
use Rattle.lines.specs.Lines.{version_of}
use Rattle.versions.specs.declared.Store.{Store}
use Rattle.versions.specs.Store.{Areas}
use Rattle.stamp.specs.Stamp.{leaf_as_of, same_below, on_from, since_by, since}
use Rattle.std.proofs.Common.{Option, Some, None}
use Rattle.tree.specs.declared.Leaf.{Leaf}

-- ---- one step

picked : (b : Bool) (x y : Leaf) → pick b (Some x) None ≡ Some y → (b ≡ true) × (x ≡ y)
picked true x y e = (refl, cc)
picked false x y e = (cc, cc)

-- It goes on to a lower version.
goes-below : (pages : List ℕ) (size w n : ℕ) (x : Option Leaf) (y : Leaf) → same_below pages size w n x ≡ Some y → version_of y.version < w
goes-below pages size w n None y e = let z : ◌≡◌ {A = ℕ} 0 1 = cc in absurd (omega arith)
goes-below pages size w n (Some x) y e =
    let p = picked (ltb (version_of x.version) w && same (part pages (size * x.page) size) (part pages (size * n) size)) x y e in
    rw (← p.1) (ltb-true (version_of x.version) w ((and-eq-true_iff (ltb (version_of x.version) w) _).0 p.0).0)

-- No version is below 0.
none_below : (pages : List ℕ) (size n : ℕ) (x : Option Leaf) → same_below pages size 0 n x ≡ None
none_below pages size n None = refl
none_below pages size n (Some y) = rw (le-ltb (version_of y.version) 0 (omega arith)) refl

on_same : (w : ℕ) (x : Option Leaf) (f g : ℕ → ℕ → ℕ) → ((y : Leaf) → x ≡ Some y → f (version_of y.version) y.page ≡ g (version_of y.version) y.page)
    → on_from w x f ≡ on_from w x g
on_same w None f g h = refl
on_same w (Some y) f g h = h y refl

module _ (s : Store) (a : Areas) (l p : ℕ) where
  -- The leaf that the step from version w and page n goes on from.
  abbrev next_leaf : ℕ → ℕ → Option Leaf
  next_leaf w n = same_below a.pages s.size w n (leaf_as_of s a l (w - 1) p)

  pub since_lower : (w n : ℕ) (y : Leaf) → next_leaf w n ≡ Some y → version_of y.version < w
  since_lower w n y e = goes-below a.pages s.size w n (leaf_as_of s a l (w - 1) p) y e

  -- ---- steps enough are enough

  since-0 : (i n : ℕ) → since_by s a l p i 0 n ≡ 0
  unfolding since_by
  since-0 zero n = refl
  since-0 (suc i) n = rw (none_below a.pages s.size n (leaf_as_of s a l 0 p)) refl

  enough : (i j w n : ℕ) → w ≤ i → w ≤ j → since_by s a l p i w n ≡ since_by s a l p j w n
  unfolding since_by
  enough zero j w n h k = let z : w ≡ 0 = omega arith in rw z (sym (since-0 j n))
  enough (suc i) zero w n h k = let z : w ≡ 0 = omega arith in rw z (since-0 (suc i) n)
  enough (suc i) (suc j) w n h k =
      on_same w (next_leaf w n) (λ x m. since_by s a l p i x m) (λ x m. since_by s a l p j x m)
      (λ y e. enough i j (version_of y.version) y.page (omega (arith, since_lower w n y e)) (omega (arith, since_lower w n y e)))

  -- ---- a step of the code

  pub since_last : (w n : ℕ) → next_leaf w n ≡ None → since s a l p w n ≡ w
  unfolding since_by
  since_last zero n e = refl
  since_last (suc i) n e = rw e refl

  pub since_next : (w n : ℕ) (y : Leaf) → next_leaf w n ≡ Some y → since s a l p w n ≡ since s a l p (version_of y.version) y.page
  unfolding since_by
  since_next zero n y e = let h = since_lower zero n y e in absurd (omega arith)
  since_next (suc i) n y e =
      let x = version_of y.version in
      rw e (enough i x x y.page (omega (arith, since_lower (suc i) n y e)) (omega arith))

pub ruleset steps = (since_lower, since_last, since_next)
