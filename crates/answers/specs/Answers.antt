-- What each step of the step program answers, by the answer of its call, and what is kept after it: the store that is open, if one is.
use Rattle.std.specs.Prelude.{ℕ, List, eqb, take, replicate, Result, Ok, Err, Option, None, Some}
use Rattle.text.specs.Text.{pick}
use Rattle.text.specs.Buffer.{front, wrote}
use Rattle.print.specs.Print.{reply_line, bytes_line}
use Rattle.print.specs.declared.Reply.{Reply}
use Rattle.table.specs.declared.Refusal.{Refusal}
use Rattle.table.specs.Refused.{number}
use Rattle.versions.specs.declared.Store.{Store}
use Rattle.format.specs.declared.Formatted.{Formatted}
use Rattle.assign.specs.declared.Assigned.{Assigned}
use Rattle.publish.specs.declared.Published.{Published}
use Rattle.answers.specs.declared.AnswerLine.{AnswerLine}
use Rattle.tree.specs.declared.Version.{Version}
use Rattle.tree.specs.declared.Ticket.{Ticket}
use Rattle.lines.specs.declared.Line.{Line}
use Rattle.weave.specs.declared.WovenNode.{WovenNode}
use Rattle.versions.specs.Store.{Out}

-- What a step comes to: the store that is open after it, if one is, and the line of its answer.
pub record Said : Type 0 where
  pub kept : Option Store
  pub line : List ℕ

-- No line: zeros, as many as a line may have bytes.
unfoldable pub blank : List ℕ
blank = replicate 520 0

-- A line at the front of a blank one, and its length.
unfoldable pub written : List ℕ → AnswerLine
written l = record { bytes = front l blank; len = wrote l blank }

-- This reply, whether a store is open or not.
abbrev pub plainly : Option Store → Reply → Said
plainly k r = record { kept = k; line = reply_line r }

-- `refused,0`: the line is malformed, or beyond the program's own limits, or no store is open.
abbrev pub refused_said : Option Store → Said
refused_said k = plainly k (Reply.Refused 0)

-- One of two, by whether a store is open.
abbrev pub by_open : {A : Type 0} → Option Store → A → (Store → A) → A
by_open None x f = x
by_open (Some s) x f = f s

-- This with a store open; with none `refused,0`.
abbrev pub when_open : Option Store → (Store → Said) → Said
when_open k f = by_open k (refused_said k) f

-- A reply so, which leaves this store open.
abbrev pub replied : Store → Reply → Said
replied s r = plainly (Some s) r

-- The reply of a call, by its refusal's number where it is refused.
abbrev pub reply_of : Result Reply Refusal → Reply
reply_of (Ok r) = r
reply_of (Err e) = Reply.Refused (number e)

-- FORMAT: the store that it made is open from now on; where it is refused, what there was is kept.
abbrev pub format_said : Option Store → Result Formatted ℕ → Said
format_said k (Ok x) = plainly (Some x.store) Reply.Ok
format_said k (Err n) = plainly k (Reply.Refused n)

-- The buffer that READ fills: zeros, as many as it gives at most.
unfoldable pub no_bytes : List ℕ
no_bytes = replicate 256 0

-- READ n bytes: the first n of the buffer that it filled, or all where there are fewer.
abbrev pub read_line : ℕ → List ℕ → Result Unit ℕ → List ℕ
read_line n bytes (Ok x) = bytes_line (take n bytes)
read_line n bytes (Err m) = reply_line (Reply.Refused m)

abbrev pub read_said : Store → ℕ → List ℕ → Result Unit ℕ → Said
read_said s n bytes a = record { kept = Some s; line = read_line n bytes a }

-- BEGIN: the ticket. Here and below a refused call's reply is its number.
abbrev pub begun_reply : Result Ticket ℕ → Reply
begun_reply (Ok t) = Reply.Ticket t.0
begun_reply (Err k) = Reply.Refused k

abbrev pub begin_said : Out Ticket → Said
begin_said o = replied o.store (begun_reply o.answer)

-- PUT: that it is done.
abbrev pub put_reply : Result Unit ℕ → Reply
put_reply (Ok x) = Reply.Put
put_reply (Err k) = Reply.Refused k

abbrev pub put_said : Store → Result Unit ℕ → Said
put_said s a = replied s (put_reply a)

-- ASSIGN, as a write or an append: the version on the line that was named, and its node count.
abbrev pub assigned_reply : Result Assigned ℕ → Reply
assigned_reply (Ok x) = Reply.Version x.version.0 x.nodes
assigned_reply (Err k) = Reply.Refused k

abbrev pub assign_said : Out Assigned → Said
assign_said o = replied o.store (assigned_reply o.answer)

-- WEAVE: the node's name, with its line in the version's number, its two numbers and how many nodes are left.
abbrev pub woven_reply : Result WovenNode ℕ → Reply
woven_reply (Ok x) = Reply.Node x.version x.first.0 x.span x.left x.right x.rest
woven_reply (Err k) = Reply.Refused k

abbrev pub weave_said : Store → Result WovenNode ℕ → Said
weave_said s a = replied s (woven_reply a)

-- PUBLISH: the version that is now published, that none is due, or that the minute is inside a window.
abbrev pub published_reply : Result Published ℕ → Reply
published_reply (Ok (Published.Now v)) = Reply.Published v.0
published_reply (Ok Published.Waiting) = Reply.Waiting
published_reply (Ok Published.Held) = Reply.Held
published_reply (Err k) = Reply.Refused k

abbrev pub publish_said : Out Published → Said
publish_said o = replied o.store (published_reply o.answer)

-- BRANCH: the line that begins.
abbrev pub branched_reply : Result Line ℕ → Reply
branched_reply (Ok l) = Reply.Line l.0
branched_reply (Err k) = Reply.Refused k

abbrev pub branch_said : Out Line → Said
branch_said o = replied o.store (branched_reply o.answer)

-- SIZE: the bytes.
abbrev pub sized_reply : Result ℕ ℕ → Reply
sized_reply (Ok n) = Reply.Size n
sized_reply (Err k) = Reply.Refused k

abbrev pub size_said : Store → Result ℕ ℕ → Said
size_said s a = replied s (sized_reply a)

-- RECENT: the last version published.
abbrev pub latest_reply : Result Version ℕ → Reply
latest_reply (Ok v) = Reply.Recent v.0
latest_reply (Err k) = Reply.Refused k

abbrev pub recent_said : Store → Result Version ℕ → Said
recent_said s a = replied s (latest_reply a)

-- STAMP: the lowest version from which on the page has had its bytes.
abbrev pub stamped_reply : Result Version ℕ → Reply
stamped_reply (Ok v) = Reply.Stamp v.0
stamped_reply (Err k) = Reply.Refused k

abbrev pub stamp_said : Store → Result Version ℕ → Said
stamp_said s a = replied s (stamped_reply a)

-- WORST: the count, whether a store is open or not; 0 is none.
abbrev pub worst_said : Option Store → ℕ → Said
worst_said k n = pick (eqb n 0) (refused_said k) (plainly k (Reply.Worst n))
