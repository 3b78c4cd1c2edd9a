-- The walks to the pages of a range, one at a time. Assumes nothing.
use mathlib.Core.Path.{◌≡◌, refl}
use mathlib.Core.Bool.{Bool, true, false, ◌||◌}
use Prim.Native.Nat.{ℕ, zero, suc, ◌+◌, ◌-◌, ◌<◌, ◌≤◌}
use native.Mathlib.Nat.{add-zero}
use native.Mathlib.Omega.{arith}
use Rattle.std.proofs.Common.{Option, Some, None, Ok, Err}
use Rattle.versions.specs.Store.{Areas}
use Rattle.walk.specs.FindPage.{page_number_of, is_lost}
use Rattle.read.specs.Range.{found_out, first_out}
use Rattle.read.specs.Read.{some_lost}

neither : (x y : Bool) → (x || y) ≡ false → (x ≡ false) × (y ≡ false)
neither true y e = (e, cc)
neither false y e = (refl, e)

found-err : (x : Option ℕ) (k : ℕ) → found_out x ≡ Err k → (x ≡ None) × (k ≡ 19)
found-err None k e = (refl, cc)
found-err (Some n) k e = (cc, cc)

found-ok : (x : Option ℕ) (n : ℕ) → found_out x ≡ Ok n → x ≡ Some n
found-ok None n e = cc
found-ok (Some m) n e = cc

module _ (count : ℕ) (a : Areas) (c : ℕ) where
  here : (p n : ℕ) → 0 < n → page_number_of count a c p ≡ None → some_lost count a c p n ≡ true
  unfolding some_lost
  here p zero h e = absurd (omega arith)
  here p (suc n) h e = rw e refl

  later : (p n q m x : ℕ) → 0 < n → page_number_of count a c p ≡ Some x → suc p ≡ q → n ≡ suc m → some_lost count a c p n ≡ some_lost count a c q m
  unfolding some_lost
  later p zero q m x h e i j = absurd (omega arith)
  later p (suc n) q m x h e i j = let rest : n ≡ m = omega arith in rw (e, ← i, rest) refl

  none : (p n : ℕ) → n ≡ 0 → some_lost count a c p n ≡ false
  unfolding some_lost
  none p zero e = refl
  none p (suc n) e = absurd (omega arith)

  -- ---- the loop over the pages, which has come to the page after i pages

  module _ (p n : ℕ) where
    pub first_lost : (k : ℕ) → 0 < n → found_out (page_number_of count a c p) ≡ Err k → first_out count a c p n ≡ Err k
    unfolding first_out
    first_lost k h e = let f = found-err (page_number_of count a c p) k e in rw (here p n h f.0, f.1) refl

    pub next_lost : (i k : ℕ) → i < n → some_lost count a c p n ≡ some_lost count a c (p + i) (n - i) → found_out (page_number_of count a c (p + i)) ≡ Err k
        → first_out count a c p n ≡ Err k
    unfolding first_out
    next_lost i k h l e =
        let f = found-err (page_number_of count a c (p + i)) k e in
        rw (l, here (p + i) (n - i) (omega arith) f.0, f.1) refl

    pub first_found : (x : ℕ) → 0 < n → found_out (page_number_of count a c p) ≡ Ok x → some_lost count a c p n ≡ some_lost count a c (p + 1) (n - 1)
    first_found x h e = later p n (p + 1) (n - 1) x h (found-ok (page_number_of count a c p) x e) (omega arith) (omega arith)

    pub next_found : (i x : ℕ) → i < n → found_out (page_number_of count a c (p + i)) ≡ Ok x
        → some_lost count a c (p + i) (n - i) ≡ some_lost count a c (p + (i + 1)) (n - (i + 1))
    next_found i x h e =
        later (p + i) (n - i) (p + (i + 1)) (n - (i + 1)) x (omega arith) (found-ok (page_number_of count a c (p + i)) x e) (omega arith) (omega arith)

    pub all_found : (i x : ℕ) → n ≤ i → found_out (page_number_of count a c p) ≡ Ok x → some_lost count a c p n ≡ some_lost count a c (p + i) (n - i)
        → first_out count a c p n ≡ Ok x
    unfolding first_out
    all_found i x h e l = rw (l, none (p + i) (n - i) (omega arith), found-ok (page_number_of count a c p) x e) refl

  pub none-lost : (p n i : ℕ) → some_lost count a c p n ≡ false → i < n → is_lost (page_number_of count a c (p + i)) ≡ false
  unfolding some_lost
  none-lost p zero i e h = absurd (omega arith)
  none-lost p (suc n) zero e h = rw add-zero (neither (is_lost (page_number_of count a c p)) (some_lost count a c (suc p) n) e).0
  none-lost p (suc n) (suc i) e h =
      let next : p + suc i ≡ suc p + i = omega arith in
      rw next (none-lost (suc p) n i (neither (is_lost (page_number_of count a c p)) (some_lost count a c (suc p) n) e).1 (omega arith))

pub ruleset walks = (first_lost, next_lost, first_found, next_found, all_found)
