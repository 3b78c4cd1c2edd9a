-- The lines' states in words: a state that is packed and unpacked is the same where its numbers fit, and the word of the sources has one for each line.
-- Assumes nothing.
use mathlib.Core.Path.{◌≡◌, refl, sym, ap, ◌∙◌}
use mathlib.Core.Logic.{◌≢◌}
use Prim.Native.Nat.{ℕ, zero, suc, ◌+◌, ◌*◌, ◌/◌, ◌%◌, ◌^◌, ◌<◌}
use native.Mathlib.Nat.{mod-eq_of_lt, mul_left_comm}
use native.Mathlib.Omega.{arith}
use lib.Pow.{pow-add, shr-shr}
use Rattle.lines.proofs.Bits.{bits-within}
use Rattle.lines.specs.Lines.{field_of, packed, unpacked, source_at, with_source}
use Rattle.lines.specs.declared.Branch.{Branch}

-- ---- a state in a word

-- Numbers of 16 bits.
pub record Fits (b : Branch) : Type 0 where
  pub start : b.start.0 < 65536
  pub assigned : b.assigned.0 < 65536
  pub published : b.published.0 < 65536
  pub blob : b.blob < 65536

-- The four numbers of a word of numbers that fit.
four-fields : (a b c d : ℕ) → a < 65536 → b < 65536 → c < 65536 → d < 65536
    → let w = a + 65536 * (b + 65536 * (c + 65536 * d)) in (field_of w 0 ≡ a) × (field_of w 1 ≡ b) × (field_of w 2 ≡ c) × (field_of w 3 ≡ d)
four-fields a b c d p q r s = (omega arith, omega arith, omega arith, omega arith)

-- A state whose numbers fit is what its word says.
pub unpacked-packed : (b : Branch) → Fits b → unpacked b.source.0 (packed b) ≡ b
unfolding packed
unpacked-packed b h =
    rw (mod-eq_of_lt h.start, mod-eq_of_lt h.assigned, mod-eq_of_lt h.published, mod-eq_of_lt h.blob)
    (let e = four-fields b.start.0 b.assigned.0 b.published.0 b.blob h.start h.assigned h.published h.blob in
    λ i. record { source = b.source; start = record { 0 = e.0 i }; assigned = record { 0 = e.1 i }; published = record { 0 = e.2 i }; blob = e.3 i })

-- ---- a source in a word

-- A line's place is 16 times the one before it.
place-next : (i : ℕ) → 2 ^ (4 * suc i) ≡ 16 * 2 ^ (4 * i)
place-next i = let e : 4 * suc i ≡ 4 + 4 * i = omega arith in ap (λ (k : ℕ). 2 ^ k) e ∙ pow-add 2 4 (4 * i)

-- Above the lowest source, in its place, stand the others.
source-next : (x y i : ℕ) → x < 16 → source_at (x + 16 * y) (suc i) ≡ source_at y i
source-next x y i h =
    let e : 4 * suc i ≡ 4 + 4 * i = omega arith in
    let d : (x + 16 * y) / 16 ≡ y = omega arith in
    ap (λ (k : ℕ). (x + 16 * y) / 2 ^ k % 16) e
    ∙ ap (λ (k : ℕ). k % 16) (sym (shr-shr (x + 16 * y) 4 (4 * i)))
    ∙ ap (λ (k : ℕ). k / 2 ^ (4 * i) % 16) d

source_first : (x y : ℕ) → x < 16 → source_at (x + 16 * y) 0 ≡ x
source_first x y h = omega arith

-- Writing above the lowest source writes among the others.
with-next : (x y i k : ℕ) → x < 16 → with_source (x + 16 * y) (suc i) k ≡ x + 16 * with_source y i k
with-next x y i k h =
    let P = 2 ^ (4 * i) in
    rw (source-next x y i h, place-next i, mul_left_comm (source_at y i) 16 P, mul_left_comm (k % 16) 16 P)
    (omega (arith, bits-within y P 16))

with_first : (x y k : ℕ) → x < 16 → with_source (x + 16 * y) 0 k ≡ k % 16 + 16 * y
with_first x y k h = omega arith

-- ---- the sources of n lines in a word

unfoldable pub sources_of : ℕ → (ℕ → ℕ) → ℕ
sources_of zero g = 0
sources_of (suc n) g = g 0 + 16 * sources_of n (λ j. g (suc j))

-- Only the sources of the n lines count.
pub sources-same : (n : ℕ) (g g' : ℕ → ℕ) → ((j : ℕ) → j < n → g j ≡ g' j) → sources_of n g ≡ sources_of n g'
unfolding sources_of
sources-same zero g g' e = refl
sources-same (suc n) g g' e =
    omega (arith, e 0 (omega arith), sources-same n (λ j. g (suc j)) (λ j. g' (suc j)) (λ j h. e (suc j) (omega arith)))

-- A line's source is read where it stands.
pub source_of : (n : ℕ) (g : ℕ → ℕ) → ((j : ℕ) → j < n → g j < 16) → (l : ℕ) → l < n → source_at (sources_of n g) l ≡ g l
unfolding sources_of
source_of zero g low l h = absurd (omega arith)
source_of (suc n) g low zero h = source_first (g 0) (sources_of n (λ j. g (suc j))) (low 0 (omega arith))
source_of (suc n) g low (suc l) h =
    source-next (g 0) (sources_of n (λ j. g (suc j))) l (low 0 (omega arith)) ∙ source_of n (λ j. g (suc j)) (λ j k. low (suc j) (omega arith)) l (omega arith)

-- The word with a line's source anew has the others as they were.
pub with-source-of : (n : ℕ) (g g' : ℕ → ℕ) → ((j : ℕ) → j < n → g j < 16) → (l k : ℕ) → l < n → k < 16 → g' l ≡ k → ((j : ℕ) → j < n → j ≢ l → g j ≡ g' j)
    → with_source (sources_of n g) l k ≡ sources_of n g'
unfolding sources_of
with-source-of zero g g' low l k h f new old = absurd (omega arith)
with-source-of (suc n) g g' low zero k h f new old =
    with_first (g 0) (sources_of n (λ j. g (suc j))) k (low 0 (omega arith))
    ∙ omega (arith, mod-eq_of_lt f, sources-same n (λ j. g (suc j)) (λ j. g' (suc j)) (λ j a. old (suc j) (omega arith) (omega arith)))
with-source-of (suc n) g g' low (suc l) k h f new old =
    with-next (g 0) (sources_of n (λ j. g (suc j))) l k (low 0 (omega arith))
    ∙ omega (
      arith,
      old 0 (omega arith) (omega arith),
      with-source-of n (λ j. g (suc j)) (λ j. g' (suc j)) (λ j a. low (suc j) (omega arith)) l k (omega arith) f new (λ j a b. old (suc j) (omega arith) (λ e. b (omega arith))),
    )
