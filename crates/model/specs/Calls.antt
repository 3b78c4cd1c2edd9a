-- The calls, and what they answer in the documents' numbers and values.
use Rattle.std.specs.Prelude.{ℕ, zero, suc, List, []}

-- What a call only asks of a line, which moves nothing: some bytes of a version, its size, the last published one, a page's stamp, or the page. The buffer to
-- fill comes with the call.
pub data Query : Type 0 where
  read : ℕ → ℕ → ℕ → List ℕ → Query
  size : ℕ → Query
  recent : Query
  stamp : ℕ → ℕ → Query
  view : ℕ → ℕ → Query

-- What a call that names a line does there. ASSIGN is WRITE or APPEND; PUBLISH is given the minute of the week.
pub data Act : Type 0 where
  WRITE : ℕ → ℕ → Act
  APPEND : ℕ → Act
  PUBLISH : ℕ → Act
  BRANCH : ℕ → Act
  ask : Query → Act

-- The documents' names of the queries.
abbrev pub READ : ℕ → ℕ → ℕ → List ℕ → Act
READ v offset len buffer = ask (read v offset len buffer)

abbrev pub SIZE : ℕ → Act
SIZE v = ask (size v)

abbrev pub RECENT : Act
RECENT = ask recent

abbrev pub STAMP : ℕ → ℕ → Act
STAMP v p = ask (stamp v p)

abbrev pub VIEW : ℕ → ℕ → Act
VIEW v p = ask (view v p)

-- A call after FORMAT: one that names no line, with the bytes to put or the windows' text, or one on a line.
pub data Call : Type 0 where
  BEGIN : ℕ → Call
  PUT : ℕ → ℕ → List ℕ → Call
  WEAVE : ℕ → Call
  SETWINDOWS : List ℕ → Call
  on : ℕ → Act → Call

-- An answer: a refusal's number, or the call's values. A node is version, first page, span, its two numbers and how many are left, versions by their numbers
-- with the line. FORMAT's value is the store, which the state has. VIEW hands out a part; to a caller that can be handed none it answers where the part begins.
pub data Answer : Type 0 where
  refused : ℕ → Answer
  format_done : Answer
  ticket_is : ℕ → Answer
  put_done : Answer
  version_is : ℕ → ℕ → Answer
  node_is : ℕ → ℕ → ℕ → ℕ → ℕ → ℕ → Answer
  published_is : ℕ → Answer
  waiting : Answer
  held : Answer
  line_is : ℕ → Answer
  windows_done : Answer
  filled : Answer
  size_is : ℕ → Answer
  recent_is : ℕ → Answer
  stamp_is : ℕ → Answer
  part_is : List ℕ → Answer
  part_at : ℕ → Answer

-- What a call gives back: its answer, and the buffer that it was lent as it leaves it (none but READ is lent one).
pub record Outcome : Type 0 where
  pub answer : Answer
  pub buffer : List ℕ

abbrev pub says : Answer → Outcome
says a = record { answer = a; buffer = [] }

-- The table's number decides between its refusal (0 is none) and the values.
abbrev pub answers : ℕ → Answer → Answer
answers zero a = a
answers (suc k) a = refused (suc k)
