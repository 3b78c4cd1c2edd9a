-- The table of refusals as data: a row is a condition and a number, and the first row whose condition holds decides; 0 is none.
-- The rows are over plain values, so that the calls read them on the store and the model reads the same rows on itself.
use Rattle.std.specs.Prelude.{ℕ, zero, suc, ◌+◌, ◌%◌, Bool, cond, not, ◌&&◌, ◌||◌, List, [], ◌∷◌, ◌++◌, leb, ltb, eqb}

infix 30 ◌≤?◌
infix 30 ◌<?◌
infix 30 ◌≡?◌
infix 30 ◌≢?◌
infixr 25 ◌and◌
infixr 24 ◌or◌
infix 20 ◌gives◌
-- A condition on numbers, or a test made elsewhere.
pub data Cond : Type 0 where
  ◌≤?◌ : ℕ → ℕ → Cond
  ◌<?◌ : ℕ → ℕ → Cond
  ◌≡?◌ : ℕ → ℕ → Cond
  ◌≢?◌ : ℕ → ℕ → Cond
  ◌and◌ : Cond → Cond → Cond
  ◌or◌ : Cond → Cond → Cond
  test : Bool → Cond

-- Whether it holds.
unfoldable pub holds : Cond → Bool
holds (a ≤? b) = leb a b
holds (a <? b) = ltb a b
holds (a ≡? b) = eqb a b
holds (a ≢? b) = not (eqb a b)
holds (c and d) = holds c && holds d
holds (c or d) = holds c || holds d
holds (test b) = b

pub data Row : Type 0 where
  ◌gives◌ : Cond → ℕ → Row

-- The number of the first row whose condition holds; 0 where none does.
unfoldable pub first_refusal : List Row → ℕ
first_refusal [] = 0
first_refusal ((c gives k) ∷ rows) = cond (holds c) k (first_refusal rows)

-- Rows in two parts: the number of the first part stands, and where that is 0 the second part's.
unfoldable pub or_else : ℕ → ℕ → ℕ
or_else zero r = r
or_else (suc k) r = suc k

-- Where the table refuses, nothing moves: what there was, and what an accepted call leaves.
unfoldable pub unless : {A : Type 0} → ℕ → A → A → A
unless zero was done = done
unless (suc k) was done = was

-- ---- FORMAT

-- S is not a power of two from 16 to 4,096: these are the divisors of 4,096 from 16 up.
abbrev pub page_size_refused : ℕ → Cond
page_size_refused s = s <? 16 or 4096 % s ≢? 0

-- Not from 1 to most.
abbrev pub outside : ℕ → ℕ → Cond
outside most n = n <? 1 or most <? n

unfoldable pub format_rows : ℕ → ℕ → ℕ → ℕ → Cond → List Row
format_rows size pages nodes updates differ =
    (page_size_refused size gives 1)
    ∷ (outside 65535 pages or outside 131072 nodes or outside 4096 updates gives 2)
    ∷ (differ gives 3)
    ∷ []

-- ---- every call but FORMAT: 3 first, 19 last

-- The condition that never holds.
abbrev pub never : Cond
never = 1 ≤? 0

-- The condition that always holds.
abbrev pub always : Cond
always = 0 ≤? 0

abbrev pub every_call : Cond → List Row → Cond → List Row
every_call differ rows lost = (differ gives 3) ∷ (rows ++ ((lost gives 19) ∷ []))

-- ---- BEGIN n, with so many tickets given of so many updates, and so many page numbers taken of so many pages

unfoldable pub begin_rows : ℕ → ℕ → ℕ → ℕ → ℕ → List Row
begin_rows n tickets updates taken pages =
    (n ≡? 0 or 64 <? n gives 4)
    ∷ (updates ≤? tickets gives 5)
    ∷ (pages <? taken + n gives 6)
    ∷ []

-- ---- PUT, ASSIGN, WEAVE. `there` is that the ticket's record lies within the register: where it does not, a row that reads it does not hold, and 19 does.

-- No such ticket: tickets count from 1.
abbrev pub no_such_ticket : ℕ → ℕ → Cond
no_such_ticket t tickets = t ≡? 0 or tickets <? t

-- PUT ticket t, page i of n, so many bytes for pages of that size; the ticket's version is 0 before ASSIGN, and `bit` is 1 where page i is put.
unfoldable pub put_rows : Cond → ℕ → ℕ → ℕ → ℕ → ℕ → ℕ → ℕ → ℕ → List Row
put_rows there t tickets version n i bit bytes size =
    (no_such_ticket t tickets gives 7)
    ∷ (there and version ≢? 0 gives 8)
    ∷ (there and n ≤? i gives 9)
    ∷ (there and bit ≡? 1 gives 10)
    ∷ (bytes ≢? size gives 11)
    ∷ []

-- No such line, of so many: lines count from 0.
abbrev pub no_such_line : ℕ → ℕ → Cond
no_such_line l lines = lines ≤? l

-- ASSIGN ticket t at page f of line l: `all` where its n pages are put; the size of the line's last assigned version; node places taken, capacity, and the count
-- wanted. An append's f is that size, so that 13 never holds of it.
unfoldable pub assign_rows : Cond → ℕ → ℕ → ℕ → ℕ → ℕ → Bool → ℕ → ℕ → ℕ → ℕ → ℕ → ℕ → List Row
assign_rows there t tickets version l lines all f blob n places nodes count =
    (no_such_ticket t tickets gives 7)
    ∷ (there and version ≢? 0 gives 8)
    ∷ (no_such_line l lines gives 20)
    ∷ (there and test (not all) gives 12)
    ∷ (blob <? f gives 13)
    ∷ (there and 4096 <? f + n gives 14)
    ∷ (there and nodes <? places + count gives 15)
    ∷ []

-- WEAVE ticket t: before ASSIGN, or with none left. `kept` is that its version's record lies within the register too.
unfoldable pub weave_rows : Cond → Cond → ℕ → ℕ → ℕ → ℕ → ℕ → List Row
weave_rows there kept t tickets version woven count =
    (no_such_ticket t tickets gives 7)
    ∷ (there and version ≡? 0 or there and kept and count ≤? woven gives 8)
    ∷ []

-- ---- RECENT of line l, of so many lines

unfoldable pub line_rows : ℕ → ℕ → List Row
line_rows l lines = (no_such_line l lines gives 20) ∷ []

-- ---- PUBLISH of line l at a minute of the week, 0 to 10,079

unfoldable pub publish_rows : ℕ → ℕ → ℕ → List Row
publish_rows l lines minute = (no_such_line l lines gives 20) ∷ (10079 <? minute gives 22) ∷ []

-- ---- SETWINDOWS by a text of so many lines, at most 32; `wrong` where one of them is no window

unfoldable pub window_rows : Bool → ℕ → List Row
window_rows wrong lines = (test wrong gives 23) ∷ (32 <? lines gives 24) ∷ []

-- ---- BRANCH from version v of line l; at most sixteen lines

unfoldable pub branch_rows : ℕ → ℕ → ℕ → ℕ → List Row
branch_rows l lines v published =
    (no_such_line l lines gives 20)
    ∷ (published <? v gives 16)
    ∷ (16 ≤? lines gives 21)
    ∷ []

-- ---- READ, SIZE, STAMP, VIEW of version v of line l. `there` is that the version's record is there (version 0 needs none).

unfoldable pub size_rows : ℕ → ℕ → ℕ → ℕ → List Row
size_rows l lines v published = (no_such_line l lines gives 20) ∷ (published <? v gives 16) ∷ []

-- A range of bytes in a snapshot of so many bytes, and a buffer.
unfoldable pub read_rows : Cond → ℕ → ℕ → ℕ → ℕ → ℕ → ℕ → ℕ → ℕ → List Row
read_rows there l lines v published total offset len buffer =
    (no_such_line l lines gives 20)
    ∷ (published <? v gives 16)
    ∷ (there and total <? offset + len gives 17)
    ∷ (buffer <? len gives 18)
    ∷ []

-- A page of a snapshot of so many pages.
unfoldable pub page_rows : Cond → ℕ → ℕ → ℕ → ℕ → ℕ → ℕ → List Row
page_rows there l lines v published pages p =
    (no_such_line l lines gives 20)
    ∷ (published <? v gives 16)
    ∷ (there and pages ≤? p gives 17)
    ∷ []
