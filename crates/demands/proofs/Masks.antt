-- The mask of the slots filled: its bits, a bit set, and the test that all are set.
-- Assumes nothing.
use Rattle.std.proofs.Common.{Option, None, Some}
use mathlib.Core.Path.{◌≡◌, refl, sym}
use mathlib.Core.Bool.{Bool, true, false, false≢true}
use mathlib.Core.List.{List, [], ◌∷◌}
use Prim.Native.Nat.{ℕ, zero, suc, ◌+◌, ◌-◌, ◌*◌, ◌/◌, ◌%◌, ◌^◌, ◌≤◌, ◌<◌}
use native.Mathlib.Nat.{zero-div, mod-eq_of_lt, pow-succ'}
use native.Mathlib.Omega.{arith}
use borrow.Author.Tests.{eq-eqb, ne_eqb}
use lib.Dec.{eqb}
use lib.ListN.{length, get_or, set, replicate, length-set}
use lib.Pow.{pow_mono}
use Rattle.tree.proofs.Count.{halved}
use Rattle.put.specs.Put.{bit_of, with_bit}
use Rattle.model.specs.History.{Page, is_filled, bit_if, all_filled}
use Rattle.demands.proofs.Image.{mask_of}

-- One slot more doubles the masks.
doubled : (x : Option Page) (xs : List (Option Page)) → 2 ^ length (x ∷ xs) ≡ 2 * 2 ^ length xs
doubled x xs = pow-succ' 2 (length xs)

pub mask_lt : (xs : List (Option Page)) → mask_of xs < 2 ^ length xs
unfolding mask_of
mask_lt [] = omega arith
mask_lt (None ∷ xs) = omega (arith, mask_lt xs, doubled None xs)
mask_lt (Some x ∷ xs) = omega (arith, mask_lt xs, doubled (Some x) xs)

pub mask-none : (n : ℕ) → mask_of (replicate n None) ≡ 0
unfolding mask_of
mask-none zero = refl
mask-none (suc n) = omega (arith, mask-none n)

-- The lowest bit, and the others.
low_bit : (x : Option Page) (m : ℕ) → (bit_if (is_filled x) + 2 * m) / 1 % 2 ≡ bit_if (is_filled x)
low_bit None m = omega arith
low_bit (Some x) m = omega arith

high_bits : (x : Option Page) (m : ℕ) → (bit_if (is_filled x) + 2 * m) / 2 ≡ m
high_bits None m = omega arith
high_bits (Some x) m = omega arith

pub mask-bit : (xs : List (Option Page)) (i : ℕ) → bit_of (mask_of xs) i ≡ bit_if (is_filled (get_or xs i None))
unfolding mask_of bit_of
mask-bit [] i = rw (zero-div (2 ^ i))
mask-bit (x ∷ xs) zero = low_bit x (mask_of xs)
mask-bit (x ∷ xs) (suc i) = rw (halved (bit_if (is_filled x) + 2 * mask_of xs) i, high_bits x (mask_of xs)) (mask-bit xs i)

mask-add : (xs : List (Option Page)) (i : ℕ) (x : Page) → i < length xs → get_or xs i None ≡ None → mask_of xs + 2 ^ i ≡ mask_of (set xs i (Some x))
unfolding mask_of
mask-add [] i x h e = absurd (omega arith)
mask-add (y ∷ xs) zero x h e = rw e (omega arith)
mask-add (y ∷ xs) (suc i) x h e = omega (arith, mask-add xs i x (omega arith) e)

pub mask-put : (xs : List (Option Page)) (i : ℕ) (x : Page) → length xs ≤ 64 → i < length xs → get_or xs i None ≡ None
    → with_bit (mask_of xs) i ≡ mask_of (set xs i (Some x))
unfolding with_bit
mask-put xs i x few h e =
    let l : mask_of (set xs i (Some x)) < 2 ^ length xs = rw (length-set xs i (Some x)) at (mask_lt (set xs i (Some x))) in
    rw (mask-add xs i x h e) (mod-eq_of_lt (omega (arith, l, pow_mono few)))

mask_full : (xs : List (Option Page)) → all_filled xs ≡ true → suc (mask_of xs) ≡ 2 ^ length xs
unfolding mask_of all_filled
mask_full [] e = refl
mask_full (None ∷ xs) e = absurd (false≢true e)
mask_full (Some x ∷ xs) e = omega (arith, mask_full xs e, doubled (Some x) xs)

mask-short : (xs : List (Option Page)) → all_filled xs ≡ false → suc (mask_of xs) < 2 ^ length xs
unfolding mask_of all_filled
mask-short [] e = absurd (false≢true (sym e))
mask-short (None ∷ xs) e = omega (arith, mask_lt xs, doubled None xs)
mask-short (Some x ∷ xs) e = omega (arith, mask-short xs e, doubled (Some x) xs)

-- No bit stands above the slots, so the low bits are the mask.
pub mask-all : (xs : List (Option Page)) → eqb (mask_of xs % 2 ^ length xs) (2 ^ length xs - 1) ≡ all_filled xs
mask-all xs = rw (mod-eq_of_lt (mask_lt xs)) (go (all_filled xs) refl)
  where
    go : (b : Bool) → all_filled xs ≡ b → eqb (mask_of xs) (2 ^ length xs - 1) ≡ all_filled xs
    go true e = rw e (eq-eqb (mask_of xs) (2 ^ length xs - 1) (omega (arith, mask_full xs e)))
    go false e = rw e (ne_eqb (mask_of xs) (2 ^ length xs - 1) (λ z. omega (arith, mask-short xs e)))
