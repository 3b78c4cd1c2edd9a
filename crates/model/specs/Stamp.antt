-- Slip 4's stamp: since which version a page has had the bytes that it has, in the one-after-the-other run.
use Rattle.std.specs.Prelude.{◌≡◌, Bool, ◌&&◌, List, [], ◌∷◌, ◌++◌, ℕ, zero, suc, ◌≤◌, ◌<◌, ltb, length, get_or}
use Rattle.text.specs.Text.{pick, same}
use Rattle.model.specs.History.{History}
use Rattle.model.specs.InTurn.{blob_at}

-- Page p is in version v, with the bytes that it has in version v + 1.
abbrev pub stays : History → ℕ → ℕ → Bool
stays h v p = ltb p (length (blob_at h v)) && same (get_or (blob_at h v) p []) (get_or (blob_at h (suc v)) p [])

-- The stamp of page p in version v: v where the page is not in version v - 1 or has other bytes there, else its stamp in version v - 1.
unfoldable pub stamp_at : History → ℕ → ℕ → ℕ
stamp_at h zero p = 0
stamp_at h (suc v) p = pick (stays h v p) (stamp_at h v p) (suc v)

-- The stamps of the first n pages in version v, in order.
unfoldable pub stamps_upto : History → ℕ → ℕ → List ℕ
stamps_upto h v zero = []
stamps_upto h v (suc n) = stamps_upto h v n ++ stamp_at h v n ∷ []

-- Page p is in every version from w to v, with the same bytes.
pub record SameFrom (h : History) (w v p : ℕ) : Type 0 where
  pub upto : w ≤ v
  pub inside : (u : ℕ) → w ≤ u → u ≤ v → p < length (blob_at h u)
  pub alike : (u : ℕ) → w ≤ u → u ≤ v → get_or (blob_at h u) p [] ≡ get_or (blob_at h v) p []

-- And w is the lowest such version: the request's own words.
pub record LowestSame (h : History) (w v p : ℕ) : Type 0 where
  pub from : SameFrom h w v p
  pub lowest : (u : ℕ) → SameFrom h u v p → w ≤ u
