-- The root's height and span for a size in pages. Document 01, "Tree"; in the trees of source document 001 the root covers the smallest power of two of pages that
-- holds the blob.
use Rattle.std.specs.Prelude.{◌≡◌, Bool, true, false, ◌&&◌, ℕ, zero, suc, ◌^◌, ◌≤◌, ltb, leb}

-- The smallest height, from h on, whose span is not below the size; the first argument bounds the search.
unfoldable pub height_from : ℕ → ℕ → ℕ → ℕ
height_from zero h s = h
height_from (suc d) h s = elim (leb s (2 ^ h)) [ true ↦ h | false ↦ height_from d (suc h) s ]

-- The height of the root for a size in pages; the root's span, 2 ^ root_height s, is the smallest power of two not below s.
unfoldable pub root_height : ℕ → ℕ
unfolding height_from
root_height s = height_from s 0 s

-- A number, or 0 where a test fails.
abbrev pub zero_unless : Bool → ℕ → ℕ
zero_unless true x = x
zero_unless false x = 0

-- The root's span for a size in pages, or 0 for a size that no tree has.
unfoldable pub root_span : ℕ → ℕ
root_span s = zero_unless (ltb 0 s && leb s 4096) (2 ^ root_height s)

-- x is the smallest power of two not below s: a power of two, not below s, and no power of two that is not below s is smaller.
pub record SmallestPower (s x : ℕ) : Type 0 where
  pub height : ℕ
  pub power : x ≡ 2 ^ height
  pub holds : s ≤ x
  pub smallest : (h : ℕ) → s ≤ 2 ^ h → x ≤ 2 ^ h
