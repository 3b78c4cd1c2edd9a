-- SIZE line, v: what it answers, over any store and areas. READ, STAMP, VIEW and BRANCH read the same size.
use Rattle.std.specs.Prelude.{◌∷◌, ℕ, zero, suc, ◌-◌, ◌*◌, ◌^◌, min, Result}
use Rattle.register.specs.Register.{update_of}
use Rattle.register.specs.declared.Part.{Part}
use Rattle.table.specs.Table.{Cond, ◌≡?◌, ◌≢?◌, ◌gives◌, every_call, first_refusal, size_rows}
use Rattle.versions.specs.declared.Store.{Store}
use Rattle.versions.specs.declared.Lengths.{Lengths}
use Rattle.versions.specs.Store.{Areas, differ, areas_differ, lines_in, line_in, number_on, part_on}
use Rattle.table.specs.Refused.{answered}

-- The size in pages of version v, as its record's part q says; version 0 is empty.
abbrev pub pages_by : ℕ → Part → ℕ
pages_by zero q = 0
pages_by (suc v) q = (update_of q).size

abbrev pub pages_in : Store → Areas → ℕ → ℕ → ℕ
pages_in s a l v = pages_by v (part_on s a l v)

-- In bytes, of pages of a size; a product past 64 bits, which no formatted store has, is read as the largest number.
unfoldable pub bytes_by : ℕ → ℕ → ℕ
bytes_by size pages = min (size * pages) (2 ^ 64 - 1)

abbrev pub bytes_in : Store → Areas → ℕ → ℕ → ℕ
bytes_in s a l v = bytes_by s.size (pages_in s a l v)

-- Rows 3, 20 and 16, with which every call on a version begins; the line's last published version is given.
unfoldable pub refusal_by : Store → Lengths → ℕ → ℕ → ℕ → ℕ
refusal_by s g l v published = first_refusal ((differ s g gives 3) ∷ size_rows l (lines_in s) v published)

abbrev pub snapshot_refusal : Store → Lengths → ℕ → ℕ → ℕ
snapshot_refusal s g l v = refusal_by s g l v (line_in s l).published.0

-- What a call on a version begins with: refused by these rows, or the version's number.
abbrev pub opened_by : Store → Lengths → ℕ → ℕ → Result ℕ ℕ
opened_by s g l v = answered (snapshot_refusal s g l v) (number_on s l v)

-- The part q is that of the version numbered c, so that its record is there; or it is not. Version 0 is numbered 0, as an empty record is.
abbrev pub is_there : Part → ℕ → Cond
is_there q c = q.name ≡? c

abbrev pub not_there : Part → ℕ → Cond
not_there q c = q.name ≢? c

unfoldable pub size_number : Store → Areas → ℕ → ℕ → ℕ
size_number s a l v =
    first_refusal (every_call (areas_differ s a) (size_rows l (lines_in s) v (line_in s l).published.0) (not_there (part_on s a l v) (number_on s l v)))

abbrev pub size_out : Store → Areas → ℕ → ℕ → Result ℕ ℕ
size_out s a l v = answered (size_number s a l v) (bytes_in s a l v)
