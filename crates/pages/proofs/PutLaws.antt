-- What `put` is where the bytes run past the area, and where the part that was lent to the copier has come back. Assumes nothing.
use Rattle.std.proofs.Common.{◌≡◌, append-nil, append_assoc, List, ◌++◌, true, false, ℕ, ◌+◌, ◌-◌, ◌<◌, ◌≤◌, length, take, drop, arith}
use lib.ListN.{length-drop, drop_of_length-le}
use lib.Seq.{take_all, drop-drop}
use borrow.Author.Tests.{le-leb, lt-leb}
use Rattle.pages.specs.Pages.{over, fits, put}

module _ (l : List ℕ) (at : ℕ) (s : List ℕ) where
  pub put-past : length l < at + length s → (false ≡ fits (length l) at (length s)) × (l ≡ put l at s)
  unfolding put
  put-past h = (simp (lt-leb _ _ h), simp (lt-leb _ _ h))

  -- ys is what the copier left of the part from index at on
  pub put_back : (ys : List ℕ) → at + length s ≤ length l → ys ≡ over (take (length l - at) (drop at l)) s
      → (true ≡ fits (length l) at (length s)) × (take at l ++ (ys ++ drop (length l - at) (drop at l)) ≡ put l at s)
  unfolding put
  put_back ys h e =
      let short : length (drop at l) ≤ length l - at = simp length-drop (omega arith) in (
        simp (le-leb _ _ h),
        rw (le-leb _ _ h, e, take_all (length l - at) (drop at l) short, drop_of_length-le (drop at l) short, append-nil, drop-drop, append_assoc),
      )
