-- What the definitions that the promises cite give, read as document 01's number and values: by the table's number k the refusal, or the call's values.
-- Assumes nothing.
use Rattle.std.proofs.Common.{◌≡◌, refl, ◌∙◌, ap, Bool, true, false, ℕ, zero, suc}
use Rattle.versions.specs.declared.Store.{Store}
use Rattle.tree.specs.declared.Version.{Version}
use Rattle.tree.specs.declared.Ticket.{Ticket}
use Rattle.lines.specs.declared.Line.{Line}
use Rattle.windows.specs.Windows.{no_windows}
use Rattle.table.specs.Refused.{answered}
use Rattle.format.specs.declared.Formatted.{Formatted}
use Rattle.format.specs.Format.{formatted}
use Rattle.begin.specs.Begin.{begun}
use Rattle.assign.specs.declared.Assigned.{Assigned}
use Rattle.assign.specs.Assign.{assigned}
use Rattle.weave.specs.declared.WovenNode.{WovenNode}
use Rattle.publish.specs.Publish.{published}
use Rattle.branch.specs.Branch.{branched}
use Rattle.stamp.specs.Stamp.{stamped}
use Rattle.demands.specs.Answers.{answer_by, published_as, formatted_answer, begun_answer, put_answer, assigned_answer, woven_answer, published_answer, branched_answer, windows_answer, filled_answer, sized_answer, latest_answer, stamped_answer, viewed_answer}
use Rattle.model.specs.Calls.{Answer, format_done, ticket_is, put_done, version_is, node_is, published_is, waiting, held, line_is, windows_done, filled, size_is, recent_is, stamp_is, part_at, answers}
use Rattle.model.specs.OnModel.{either}

-- Values need be the same only where the table's number is 0.
pub answers-same : (k : ℕ) (a b : Answer) → (k ≡ 0 → a ≡ b) → answers k a ≡ answers k b
answers-same zero a b e = e refl
answers-same (suc k) a b e = refl

-- A call's answer by the table's number.
pub answer_reads : {A : Type 0} (f : A → Answer) (k : ℕ) (x : A) → answer_by f (answered k x) ≡ answers k (f x)
answer_reads f zero x = refl
answer_reads f (suc k) x = refl

-- What PUBLISH comes to, by whether the minute is inside a window and whether version v is due.
pub published_reads : (h due : Bool) (v : ℕ) → published_as (published h due v) ≡ either h held (either due (published_is v) waiting)
published_reads true due v = refl
published_reads false true v = refl
published_reads false false v = refl

-- The same of each call.
pub formatted-reads : (k : ℕ) (s : Store) → formatted_answer (formatted k s) ≡ answers k format_done
formatted-reads k s = answer_reads (λ (x : Formatted). format_done) k (record { store = s; windows = no_windows })

pub begun-reads : (k t : ℕ) → begun_answer (begun k t) ≡ answers k (ticket_is t)
begun-reads k t = answer_reads (λ (x : Ticket). ticket_is x.0) k (record { 0 = t })

pub put_reads : (k : ℕ) → put_answer (answered k tt) ≡ answers k put_done
put_reads k = answer_reads {A = Unit {0}} (λ x. put_done) k tt

pub assigned-reads : (k v count : ℕ) → assigned_answer (assigned k v count) ≡ answers k (version_is v count)
assigned-reads k v count = answer_reads (λ (x : Assigned). version_is x.version.0 x.nodes) k (record { version = record { 0 = v }; nodes = count })

pub woven-reads : (k : ℕ) (x : WovenNode) → woven_answer (answered k x) ≡ answers k (node_is x.version x.first.0 x.span x.left x.right x.rest)
woven-reads k x = answer_reads (λ (y : WovenNode). node_is y.version y.first.0 y.span y.left y.right y.rest) k x

pub published-reads : (k : ℕ) (h due : Bool) (v : ℕ) → published_answer (answered k (published h due v)) ≡ answers k (either h held (either due (published_is v) waiting))
published-reads k h due v = answer_reads published_as k (published h due v) ∙ ap (answers k) (published_reads h due v)

pub branched-reads : (k l : ℕ) → branched_answer (branched k l) ≡ answers k (line_is l)
branched-reads k l = answer_reads (λ (x : Line). line_is x.0) k (record { 0 = l })

pub windows-reads : (k : ℕ) → windows_answer (answered k tt) ≡ answers k windows_done
windows-reads k = answer_reads {A = Unit {0}} (λ x. windows_done) k tt

pub filled-reads : (k : ℕ) → filled_answer (answered k tt) ≡ answers k filled
filled-reads k = answer_reads {A = Unit {0}} (λ x. filled) k tt

pub sized_reads : (k n : ℕ) → sized_answer (answered k n) ≡ answers k (size_is n)
sized_reads k n = answer_reads size_is k n

pub latest-reads : (k v : ℕ) → latest_answer (answered k (record { 0 = v })) ≡ answers k (recent_is v)
latest-reads k v = answer_reads (λ (x : Version). recent_is x.0) k (record { 0 = v })

pub stamped-reads : (k v : ℕ) → stamped_answer (stamped k v) ≡ answers k (stamp_is v)
stamped-reads k v = answer_reads (λ (x : Version). stamp_is x.0) k (record { 0 = v })

pub viewed-reads : (k at : ℕ) → viewed_answer (answered k at) ≡ answers k (part_at at)
viewed-reads k at = answer_reads part_at k at
