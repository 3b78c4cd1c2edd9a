-- What the functions of READ ask and give: a range of bytes one page at a time.
use Rattle.std.specs.Prelude.{◌≡◌, Bool, true, false, cond, eqb, [], ◌∷◌, ℕ, ◌+◌, ◌*◌, ◌/◌, ◌%◌, ◌^◌, ◌≤◌, ◌<◌, length, Option, Some, None, Result, Ok, Err}
use Rattle.register.specs.declared.Part.{Part}
use Rattle.table.specs.Table.{◌<?◌, always, ◌gives◌, first_refusal}
use Rattle.table.specs.Refused.{answered}
use Rattle.versions.specs.declared.Store.{Store}
use Rattle.versions.specs.Store.{Areas}
use Rattle.versions.specs.Size.{pages_by, bytes_by}
use Rattle.walk.specs.FindPage.{page_number_of, or_zero}
use Rattle.read.specs.Read.{some_lost, pages_touched}
use Rattle.read.specs.declared.Pages.{Pages}

-- The bytes of version v, numbered c, of pages of a size, by its record's part q; none where that record is not there.
unfoldable pub bytes_there : ℕ → Part → ℕ → ℕ → Option ℕ
bytes_there size q c v = cond (eqb q.name c) (Some (bytes_by size (pages_by v q))) None

-- The refusal of READ past the rows up to 16, but for the pages' walks, by those bytes.
abbrev pub range_refusal : Option ℕ → ℕ → ℕ → ℕ → ℕ
range_refusal (Some total) offset len room = first_refusal ((total <? offset + len gives 17) ∷ (room <? len gives 18) ∷ [])
range_refusal None offset len room = first_refusal ((room <? len gives 18) ∷ (always gives 19) ∷ [])

-- As an answer: refused, or the range may be walked to.
unfoldable pub range_out : Option ℕ → ℕ → ℕ → ℕ → Result Unit ℕ
range_out x offset len room = answered (range_refusal x offset len room) tt

-- A page that is not found is 19.
abbrev pub lost_refusal : Bool → ℕ
lost_refusal true = 19
lost_refusal false = 0

-- The number of a page that is found, or its refusal.
abbrev pub found_out : Option ℕ → Result ℕ ℕ
found_out None = Err 19
found_out (Some n) = Ok n

-- The number of the first of n pages, once all of them are found.
unfoldable pub first_out : ℕ → Areas → ℕ → ℕ → ℕ → Result ℕ ℕ
first_out pages a c p n = answered (lost_refusal (some_lost pages a c p n)) (or_zero (page_number_of pages a c p))

-- A range that lies within a version's bytes.
pub record Ranged (size offset len : ℕ) : Type 0 where
  pub fits : offset + len < 2 ^ 64
  pub some : 0 < size
  pub any : 0 < len

-- The pages that a range touches.
abbrev pub touched : ℕ → ℕ → ℕ → Pages
touched size offset len = record { first = record { 0 = offset / size }; from = offset % size; count = pages_touched size offset len }

-- What the copy of the bytes of some pages asks: the range of so many bytes begins in the first of them and ends in the last, the area holds the store's pages, and each
-- page of the range is found, the first by the number given.
pub record Readable (s : Store) (a : Areas) (c : ℕ) (t : Pages) (number len : ℕ) : Type 0 where
  pub some : 0 < t.count
  pub begins : t.from < s.size
  pub ends : (i : ℕ) → i < t.count → s.size * i < t.from + len
  pub within : t.from + len ≤ s.size * t.count
  pub fits : t.first.0 * s.size + t.from + len < 2 ^ 64
  pub area : length a.pages ≡ s.size * s.pages
  pub found : some_lost s.pages a c t.first.0 t.count ≡ false
  pub first : number ≡ or_zero (page_number_of s.pages a c t.first.0)
