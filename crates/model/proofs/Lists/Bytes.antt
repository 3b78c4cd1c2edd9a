-- A range of bytes, by the byte at each number: of a list, and of blocks.
-- Assumes nothing.
use mathlib.Core.Path.{◌≡◌, refl, ◌∙◌}
use mathlib.Core.List.{List, [], ◌∷◌}
use Prim.Native.Nat.{ℕ, zero, suc, ◌+◌, ◌*◌, ◌≤◌, ◌<◌}
use native.Mathlib.Omega.{arith}
use lib.ListN.{length, get_or, take, drop}
use lib.Seq.{drop-cons}
use Rattle.model.specs.History.{Page}
use Rattle.model.specs.InTurn.{joined}
use Rattle.model.proofs.Lists.Blocks.{Blocks, length-joined, page_byte, blocks-byte}

-- g j, g (j + 1) .. of so many.
unfoldable pub bytes_by : (ℕ → ℕ) → ℕ → ℕ → List ℕ
bytes_by g j zero = []
bytes_by g j (suc len) = g j ∷ bytes_by g (suc j) len

pub bytes-by-same : (g k : ℕ → ℕ) (off len : ℕ) → ((j : ℕ) → off ≤ j → j < off + len → g j ≡ k j) → bytes_by g off len ≡ bytes_by k off len
unfolding bytes_by
bytes-by-same g k off zero e = refl
bytes-by-same g k off (suc len) e =
    rw (e off (omega arith) (omega arith), bytes-by-same g k (suc off) len (λ j p q. e j (omega arith) (omega arith)))

-- A range of a list is its elements.
pub range-by : (l : List ℕ) (off len : ℕ) → off + len ≤ length l → take len (drop off l) ≡ bytes_by (λ j. get_or l j 0) off len
unfolding bytes_by
range-by l off zero p = refl
range-by l off (suc len) p = rw (drop-cons l off 0 (omega arith), range-by l (suc off) len (omega arith))

-- A range of the bytes of blocks.
pub blocks-range : (S : ℕ) (xs : List Page) → Blocks S xs → 0 < S → (off len : ℕ) → off + len ≤ S * length xs
    → take len (drop off (joined xs)) ≡ bytes_by (page_byte S xs) off len
blocks-range S xs sized some off len q =
    range-by (joined xs) off len (omega (arith, length-joined S xs sized))
    ∙ bytes-by-same (λ j. get_or (joined xs) j 0) (page_byte S xs) off len (λ j r s. blocks-byte S xs sized some j (omega arith))
