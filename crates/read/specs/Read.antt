-- READ line, v, offset, length: what it answers, and the buffer as it leaves it, over any store and areas.
use Rattle.std.specs.Prelude.{Bool, false, ◌||◌, List, [], ◌∷◌, ◌++◌, ℕ, zero, suc, ◌+◌, ◌-◌, ◌*◌, ◌/◌, ◌%◌, length, get_or, drop, Result}
use Rattle.table.specs.Table.{◌or◌, test, every_call, first_refusal, unless, read_rows}
use Rattle.versions.specs.declared.Store.{Store}
use Rattle.versions.specs.Store.{Areas, areas_differ, lines_in, line_in, number_on, part_on}
use Rattle.versions.specs.Size.{is_there, not_there, bytes_in}
use Rattle.walk.specs.FindPage.{page_number_of, is_lost, or_zero}
use Rattle.table.specs.Refused.{answered}

-- One of the n pages from p on of the version numbered c is not found, in a page area of so many pages.
unfoldable pub some_lost : ℕ → Areas → ℕ → ℕ → ℕ → Bool
some_lost pages a c p zero = false
some_lost pages a c p (suc n) = is_lost (page_number_of pages a c p) || some_lost pages a c (suc p) n

-- How many pages a range of bytes touches.
abbrev pub pages_touched : ℕ → ℕ → ℕ → ℕ
pages_touched size offset zero = 0
pages_touched size offset (suc len) = suc ((offset + len) / size) - offset / size

unfoldable pub read_number : Store → Areas → ℕ → ℕ → ℕ → ℕ → List ℕ → ℕ
read_number s a l v offset len buffer =
    let c = number_on s l v in
    let q = part_on s a l v in
    first_refusal
    (every_call
    (areas_differ s a)
    (read_rows (is_there q c) l (lines_in s) v (line_in s l).published.0 (bytes_in s a l v) offset len (length buffer))
    (not_there q c or test (some_lost s.pages a c (offset / s.size) (pages_touched s.size offset len))))

-- Byte j of the version numbered c: byte j % S of its page j / S, whose bytes begin at S times its page number. The store's S and its number of pages are given.
unfoldable pub byte_of : ℕ → ℕ → Areas → ℕ → ℕ → ℕ
byte_of size pages a c j = get_or a.pages (size * or_zero (page_number_of pages a c (j / size)) + j % size) 0

-- The len bytes from byte j on.
unfoldable pub bytes_from : ℕ → ℕ → Areas → ℕ → ℕ → ℕ → List ℕ
bytes_from size pages a c j zero = []
bytes_from size pages a c j (suc len) = byte_of size pages a c j ∷ bytes_from size pages a c (suc j) len

abbrev pub read_out : Store → Areas → ℕ → ℕ → ℕ → ℕ → List ℕ → Result Unit ℕ
read_out s a l v offset len buffer = answered (read_number s a l v offset len buffer) tt

-- READ fills the front of the buffer; the rest stays.
abbrev pub read_buffer : Store → Areas → ℕ → ℕ → ℕ → ℕ → List ℕ → List ℕ
read_buffer s a l v offset len buffer =
    unless (read_number s a l v offset len buffer) buffer (bytes_from s.size s.pages a (number_on s l v) offset len ++ drop len buffer)
