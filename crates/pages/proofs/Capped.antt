-- A product that is capped past the area's end says the same as the product itself: both lie past the area. Assumes nothing.
use mathlib.Core.Path.{◌≡◌, sym, ◌∙◌}
use mathlib.Core.List.{List, []}
use mathlib.Core.Bool.{false}
use Prim.Native.Nat.{ℕ, ◌+◌, ◌<◌, min}
use native.Mathlib.Nat.{min-eq_left, min-eq_right, lt_of_not-le, le_of_lt}
use native.Mathlib.Decide.{dec_le}
use native.Mathlib.Omega.{arith}
use lib.ListN.{length}
use borrow.Author.Tests.{lt-leb}
use Rattle.pages.specs.Pages.{fits, put, part}

module _ (l : List ℕ) (at p m : ℕ) (h : length l < m) (e : at ≡ min p m) where
  -- f answers x at every place past l
  same : {A : Type 0} (f : ℕ → A) (x : A) → ((q : ℕ) → length l < q → f q ≡ x) → f at ≡ f p
  same f x past =
      rw e
      (elim (dec_le p m) [
        | yes k ↦ rw (min-eq_left {n = p} {m = m} k)
        | no k ↦ let k = lt_of_not-le k in rw (min-eq_right {n = m} {m = p} (le_of_lt k)) (past m h ∙ sym (past p (omega arith)))
      ])

  pub fits-capped : (n : ℕ) → fits (length l) at n ≡ fits (length l) p n
  fits-capped n = same (λ q. fits (length l) q n) false (λ q k. lt-leb (q + n) (length l) (omega arith))

  pub put-capped : (s : List ℕ) → put l at s ≡ put l p s
  unfolding put
  put-capped s = same (λ q. put l q s) l (λ q k. simp (lt-leb (q + length s) (length l) (omega arith)))

  pub part-capped : (n : ℕ) → part l at n ≡ part l p n
  unfolding part
  part-capped n = same (λ q. part l q n) [] (λ q k. simp (lt-leb (q + n) (length l) (omega arith)))
