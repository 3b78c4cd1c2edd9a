-- What each exported call replies, from what the call answers: the number of the refusal, 0 where the call is accepted, and its values.
use Rattle.std.specs.Prelude.{ℕ, Result, Ok, Err}
use Rattle.versions.specs.declared.Store.{Store}
use Rattle.versions.specs.Store.{with_lines, Out}
use Rattle.format.specs.Format.{fresh}
use Rattle.format.specs.declared.Formatted.{Formatted}
use Rattle.assign.specs.declared.Assigned.{Assigned}
use Rattle.publish.specs.declared.Published.{Published}
use Rattle.lines.specs.Lines.{no_lines}
use Rattle.windows.specs.declared.Windows.{Windows}
use Rattle.windows.specs.Windows.{no_windows}
use Rattle.replies.specs.declared.FormatReply.{FormatReply}
use Rattle.replies.specs.declared.BeginReply.{BeginReply}
use Rattle.replies.specs.declared.AssignReply.{AssignReply}
use Rattle.replies.specs.declared.WeaveReply.{WeaveReply}
use Rattle.replies.specs.declared.PublishReply.{PublishReply}
use Rattle.replies.specs.declared.WindowsReply.{WindowsReply}
use Rattle.replies.specs.declared.BranchReply.{BranchReply}
use Rattle.replies.specs.declared.SizeReply.{SizeReply}
use Rattle.replies.specs.declared.VersionReply.{VersionReply}
use Rattle.replies.specs.declared.ViewReply.{ViewReply}
use Rattle.tree.specs.declared.Version.{Version}
use Rattle.tree.specs.declared.Ticket.{Ticket}
use Rattle.lines.specs.declared.Line.{Line}
use Rattle.weave.specs.declared.WovenNode.{WovenNode}
use Rattle.set_windows.specs.SetWindows.{WindowsOut}

-- A store of all zeros.
abbrev pub no_store : Store
no_store = with_lines (fresh 0 0 0 0) 0 0 no_lines

-- FORMAT: the store that it made and its windows; where it is refused, all zeros.
abbrev pub format_reply : Result Formatted ℕ → FormatReply
format_reply (Ok x) = record { refusal = 0; store = x.store; windows = x.windows }
format_reply (Err k) = record { refusal = k; store = no_store; windows = no_windows }

-- BEGIN: the store, and the ticket; 0 where it is refused.
abbrev pub begun_reply : Store → Result Ticket ℕ → BeginReply
begun_reply s (Ok t) = record { refusal = 0; store = s; ticket = t.0 }
begun_reply s (Err k) = record { refusal = k; store = s; ticket = 0 }

abbrev pub begin_reply : Out Ticket → BeginReply
begin_reply out = begun_reply out.store out.answer

-- PUT and READ: the refusal alone; READ's bytes are in the buffer.
abbrev pub done_reply : Result Unit ℕ → ℕ
done_reply (Ok x) = 0
done_reply (Err k) = k

-- ASSIGN: the store, the version and its node count; both 0 where it is refused.
abbrev pub assigned_reply : Store → Result Assigned ℕ → AssignReply
assigned_reply s (Ok x) = record { refusal = 0; store = s; version = x.version.0; nodes = x.nodes }
assigned_reply s (Err k) = record { refusal = k; store = s; version = 0; nodes = 0 }

abbrev pub assign_reply : Out Assigned → AssignReply
assign_reply out = assigned_reply out.store out.answer

-- WEAVE: the node's name, with its version's number; its two numbers and how many nodes are left; all 0 where it is refused.
abbrev pub weave_reply : Result WovenNode ℕ → WeaveReply
weave_reply (Ok x) = record {
  refusal = 0;
  version = x.version;
  first = x.first.0;
  span = x.span;
  left = x.left;
  right = x.right;
  rest = x.rest;
}
weave_reply (Err k) = record { refusal = k; version = 0; first = 0; span = 0; left = 0; right = 0; rest = 0 }

-- PUBLISH: the store, the version that is now published, and 1 where it is held; both 0 where it waits and where it is refused.
abbrev pub published_reply : Store → Result Published ℕ → PublishReply
published_reply s (Ok (Published.Now v)) = record { refusal = 0; store = s; version = v.0; held = 0 }
published_reply s (Ok Published.Waiting) = record { refusal = 0; store = s; version = 0; held = 0 }
published_reply s (Ok Published.Held) = record { refusal = 0; store = s; version = 0; held = 1 }
published_reply s (Err k) = record { refusal = k; store = s; version = 0; held = 0 }

abbrev pub publish_reply : Out Published → PublishReply
publish_reply out = published_reply out.store out.answer

-- SETWINDOWS: the windows, new or as they were.
abbrev pub windows_set_reply : Windows → Result Unit ℕ → WindowsReply
windows_set_reply w (Ok x) = record { refusal = 0; windows = w }
windows_set_reply w (Err k) = record { refusal = k; windows = w }

abbrev pub windows_reply : WindowsOut → WindowsReply
windows_reply out = windows_set_reply out.windows out.answer

-- BRANCH: the store, and the new line; 0 where it is refused.
abbrev pub branched_reply : Store → Result Line ℕ → BranchReply
branched_reply s (Ok l) = record { refusal = 0; store = s; line = l.0 }
branched_reply s (Err k) = record { refusal = k; store = s; line = 0 }

abbrev pub branch_reply : Out Line → BranchReply
branch_reply out = branched_reply out.store out.answer

-- SIZE: the bytes; 0 where it is refused.
abbrev pub size_reply : Result ℕ ℕ → SizeReply
size_reply (Ok n) = record { refusal = 0; bytes = n }
size_reply (Err k) = record { refusal = k; bytes = 0 }

-- RECENT: the last version published; STAMP: the lowest version from which on the page has had its bytes. 0 where it is refused.
abbrev pub version_reply : Result Version ℕ → VersionReply
version_reply (Ok v) = record { refusal = 0; version = v.0 }
version_reply (Err k) = record { refusal = k; version = 0 }

-- VIEW: where the part begins, and its length, which is the page size; both 0 where it is refused.
abbrev pub view_reply : ℕ → Result ℕ ℕ → ViewReply
view_reply size (Ok at) = record { refusal = 0; begin = at; length = size }
view_reply size (Err k) = record { refusal = k; begin = 0; length = 0 }
