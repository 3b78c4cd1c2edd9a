-- Lists of calls, on a store and on the model.
use Rattle.std.specs.Prelude.{List, ℕ}
use Rattle.versions.specs.declared.Store.{Store}
use Rattle.model.specs.Calls.{Call, BEGIN, PUT, WEAVE, SETWINDOWS, on, Act, WRITE, APPEND, PUBLISH, BRANCH, ask, Query, read, size, recent, stamp, view, part_is, Outcome, says}
use Rattle.model.specs.Model.{Limits}
use Rattle.model.specs.Run.{run}
use Rattle.demands.specs.Answers.{begun_answer, put_answer, assigned_answer, woven_answer, published_answer, branched_answer, windows_answer, filled_answer, sized_answer, latest_answer, stamped_answer}
use Rattle.versions.specs.Store.{Areas, with_pages, with_nodes, with_register, line_in}
use Rattle.format.specs.Format.{fresh, format_areas}
use Rattle.begin.specs.Begin.{begin_out, begin_register}
use Rattle.put.specs.Put.{put_out, put_pages, put_register}
use Rattle.assign.specs.Assign.{assign_out, assign_register}
use Rattle.weave.specs.Weave.{weave_out, weave_nodes, weave_register}
use Rattle.publish.specs.Publish.{publish_out}
use Rattle.branch.specs.Branch.{branch_out}
use Rattle.windows.specs.declared.Windows.{Windows}
use Rattle.windows.specs.Windows.{no_windows}
use Rattle.set_windows.specs.SetWindows.{set_out}
use Rattle.read.specs.Read.{read_out, read_buffer}
use Rattle.versions.specs.Size.{size_out}
use Rattle.versions.specs.Recent.{recent_out}
use Rattle.stamp.specs.Stamp.{stamp_out}
use Rattle.view.specs.View.{view_part}

-- A store with its windows and its areas, as calls are given them and leave them. SETWINDOWS and PUBLISH alone are given the windows.
pub record State : Type 0 where
  pub store : Store
  pub windows : Windows
  pub areas : Areas

-- A store with these areas and no windows.
abbrev pub state_with : Store → Areas → State
state_with s a = record { store = s; windows = no_windows; areas = a }

-- The state with another store, with other windows, and with other areas.
abbrev pub with_store : State → Store → State
with_store x store = record { store = store; windows = x.windows; areas = x.areas }

abbrev pub with_windows : State → Windows → State
with_windows x windows = record { store = x.store; windows = windows; areas = x.areas }

abbrev pub with_lent : State → Areas → State
with_lent x areas = record { store = x.store; windows = x.windows; areas = areas }

abbrev pub assign_call : State → ℕ → ℕ → ℕ → State × Outcome
assign_call x l t f =
    let o = assign_out x.store x.areas l t f in
    (with_lent (with_store x o.store) (with_register x.areas (assign_register x.store x.areas l t f)), says (assigned_answer o.answer))

-- What a query of line l of a store gives back, as its promise says.
unfoldable pub store_outcome : State → ℕ → Query → Outcome
store_outcome x l (read v offset len buffer) =
    record {
      answer = filled_answer (read_out x.store x.areas l v offset len buffer);
      buffer = read_buffer x.store x.areas l v offset len buffer;
    }
store_outcome x l (size v) = says (sized_answer (size_out x.store x.areas l v))
store_outcome x l recent = says (latest_answer (recent_out x.store x.areas l))
store_outcome x l (stamp v p) = says (stamped_answer (stamp_out x.store x.areas l v p))
store_outcome x l (view v p) = says (part_is (view_part x.store x.areas l v p))

-- One call on line l of a store: what its promise says it answers and leaves. A query leaves all as it was.
unfoldable pub on_line_of : State → ℕ → Act → State × Outcome
on_line_of x l (WRITE t f) = assign_call x l t f
on_line_of x l (APPEND t) = assign_call x l t (line_in x.store l).blob
on_line_of x l (PUBLISH minute) =
    let o = publish_out x.store x.windows x.areas l minute in
    (with_store x o.store, says (published_answer o.answer))
on_line_of x l (BRANCH v) =
    let o = branch_out x.store x.areas l v in
    (with_store x o.store, says (branched_answer o.answer))
on_line_of x l (ask q) = (x, store_outcome x l q)

-- One call on a store.
unfoldable pub on_store : State → Call → State × Outcome
on_store x (BEGIN n) =
    let o = begin_out x.store x.areas n in
    (with_lent (with_store x o.store) (with_register x.areas (begin_register x.store x.areas n)), says (begun_answer o.answer))
on_store x (PUT t i bytes) = (
  with_lent x (with_register (with_pages x.areas (put_pages x.store x.areas t i bytes)) (put_register x.store x.areas t i bytes)),
  says (put_answer (put_out x.store x.areas t i bytes)),
)
on_store x (WEAVE t) = (
  with_lent x (with_register (with_nodes x.areas (weave_nodes x.store x.areas t)) (weave_register x.store x.areas t)),
  says (woven_answer (weave_out x.store x.areas t)),
)
on_store x (SETWINDOWS t) =
    let o = set_out x.store x.windows x.areas t in
    (with_windows x o.windows, says (windows_answer o.answer))
on_store x (on l a) = on_line_of x l a

-- The store that FORMAT of these limits makes.
abbrev pub fresh_of : Limits → Store
fresh_of L = fresh L.size L.pages L.nodes L.updates

-- The store and areas that FORMAT leaves of areas that it is lent, where it accepts, with no windows.
unfoldable pub formatted_state : Limits → Areas → State
formatted_state L a = state_with (fresh_of L) (format_areas (fresh_of L) a)

-- The state after a list of calls from FORMAT on.
abbrev pub store_after : Limits → Areas → List Call → State
store_after L a cs = run on_store (formatted_state L a) cs

-- What one call more gives back.
abbrev pub asked : State → Call → Outcome
asked x c = (on_store x c).1
