-- The number and values of each case of the code's answers, as the documents have them.
use Rattle.std.specs.Prelude.{ℕ, Result, Ok, Err}
use Rattle.tree.specs.declared.Version.{Version}
use Rattle.tree.specs.declared.Ticket.{Ticket}
use Rattle.lines.specs.declared.Line.{Line}
use Rattle.format.specs.declared.Formatted.{Formatted}
use Rattle.assign.specs.declared.Assigned.{Assigned}
use Rattle.weave.specs.declared.WovenNode.{WovenNode}
use Rattle.publish.specs.declared.Published.{Published}
use Rattle.model.specs.Calls.{Answer, refused, format_done, ticket_is, put_done, version_is, node_is, published_is, waiting, held, line_is, windows_done, filled, size_is, recent_is, stamp_is, part_at}

-- The answer of a call: its values where it is accepted, and else the refusal's number.
abbrev pub answer_by : {A : Type 0} → (A → Answer) → Result A ℕ → Answer
answer_by f (Ok x) = f x
answer_by f (Err k) = refused k

-- What PUBLISH comes to where it is accepted.
abbrev pub published_as : Published → Answer
published_as (Published.Now v) = published_is v.0
published_as Published.Waiting = waiting
published_as Published.Held = held

abbrev pub formatted_answer : Result Formatted ℕ → Answer
formatted_answer = answer_by (λ x. format_done)

abbrev pub begun_answer : Result Ticket ℕ → Answer
begun_answer = answer_by (λ t. ticket_is t.0)

abbrev pub put_answer : Result Unit ℕ → Answer
put_answer = answer_by (λ x. put_done)

abbrev pub assigned_answer : Result Assigned ℕ → Answer
assigned_answer = answer_by (λ x. version_is x.version.0 x.nodes)

abbrev pub woven_answer : Result WovenNode ℕ → Answer
woven_answer = answer_by (λ x. node_is x.version x.first.0 x.span x.left x.right x.rest)

abbrev pub published_answer : Result Published ℕ → Answer
published_answer = answer_by published_as

abbrev pub branched_answer : Result Line ℕ → Answer
branched_answer = answer_by (λ l. line_is l.0)

abbrev pub windows_answer : Result Unit ℕ → Answer
windows_answer = answer_by (λ x. windows_done)

abbrev pub filled_answer : Result Unit ℕ → Answer
filled_answer = answer_by (λ x. filled)

abbrev pub sized_answer : Result ℕ ℕ → Answer
sized_answer = answer_by size_is

abbrev pub latest_answer : Result Version ℕ → Answer
latest_answer = answer_by (λ v. recent_is v.0)

abbrev pub stamped_answer : Result Version ℕ → Answer
stamped_answer = answer_by (λ v. stamp_is v.0)

abbrev pub viewed_answer : Result ℕ ℕ → Answer
viewed_answer = answer_by part_at
