-- The code's refusals by the table's numbers: a call's answer is a `Result`, whose error the table numbers.
use Rattle.std.specs.Prelude.{ℕ, zero, suc, Result, Ok, Err}
use Rattle.table.specs.declared.Refusal.{Refusal}
use Rattle.table.specs.declared.Refusal.TheVariants.{PageSize, Capacity, AreaLength, UpdateSize, RegisterFull, PagesFull, NoSuchTicket, OutOfTurn, NoSuchPage, AlreadyPut, PageLength, NotAllPut, PastEnd, BlobFull, NodesFull, NotPublished, OutsideSnapshot, BufferTooShort, Damaged, NoSuchLine, LinesFull, NoSuchMinute, WrongWindow, TooManyWindows}

-- The number that the table gives a refusal.
abbrev pub number : Refusal → ℕ
number PageSize = 1
number Capacity = 2
number AreaLength = 3
number UpdateSize = 4
number RegisterFull = 5
number PagesFull = 6
number NoSuchTicket = 7
number OutOfTurn = 8
number NoSuchPage = 9
number AlreadyPut = 10
number PageLength = 11
number NotAllPut = 12
number PastEnd = 13
number BlobFull = 14
number NodesFull = 15
number NotPublished = 16
number OutsideSnapshot = 17
number BufferTooShort = 18
number Damaged = 19
number NoSuchLine = 20
number LinesFull = 21
number NoSuchMinute = 22
number WrongWindow = 23
number TooManyWindows = 24

-- An answer with its refusal as the table numbers it. What a call answers is said of this.
abbrev pub numbered : {A : Type 0} → Result A Refusal → Result A ℕ
numbered (Ok x) = Ok x
numbered (Err e) = Err (number e)

-- The number of an answer's refusal; 0 where it is accepted.
abbrev pub number_in : {A : Type 0} → Result A Refusal → ℕ
number_in (Ok x) = 0
number_in (Err e) = number e

-- The answer by the table's number: refused by it, or x where it is 0.
abbrev pub answered : {A : Type 0} → ℕ → A → Result A ℕ
answered zero x = Ok x
answered (suc k) x = Err (suc k)
