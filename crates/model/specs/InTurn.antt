-- The one-after-the-other run of document 01: version k is version k - 1 with update k applied, and version 0 is empty.
use Rattle.std.specs.Prelude.{List, [], ◌∷◌, ◌++◌, map, ℕ, zero, suc, ◌+◌, length, take, drop, Option, None, Some}
use Rattle.model.specs.History.{Page, History, ticket_at, version_at}

abbrev pub content : Option Page → Page
content None = []
content (Some x) = x

-- The blob's pages with new ones from page f on: slot i goes to page f + i.
unfoldable pub applied : List Page → ℕ → List Page → List Page
applied blob f new = take f blob ++ new ++ drop (f + length new) blob

-- The pages of version k.
unfoldable pub blob_at : History → ℕ → List Page
blob_at m zero = []
blob_at m (suc k) = applied (blob_at m k) (version_at m (suc k)).f (map content (ticket_at m (version_at m (suc k)).ticket).slots)

unfoldable pub joined : List Page → List ℕ
joined [] = []
joined (x ∷ xs) = x ++ joined xs

-- The bytes of version k.
abbrev pub bytes_at : History → ℕ → List ℕ
bytes_at m k = joined (blob_at m k)
