-- What each step of the step program answers and leaves, in the words of its call.
use Rattle.std.specs.Prelude.{ℕ, List, take, Option, None, Some}
use Rattle.tree.specs.Worst.{worst_for}
use Rattle.windows.specs.Windows.{no_windows}
use Rattle.versions.specs.Store.{Areas, areas_of, with_register, line_in}
use Rattle.versions.specs.Size.{size_out}
use Rattle.versions.specs.Recent.{recent_out}
use Rattle.versions.specs.declared.Store.{Store}
use Rattle.format.specs.Format.{fresh, format_answer, format_areas}
use Rattle.begin.specs.Begin.{begin_out, begin_register}
use Rattle.put.specs.Put.{put_out, put_pages, put_register}
use Rattle.assign.specs.Assign.{assign_out, assign_register}
use Rattle.weave.specs.Weave.{weave_out, weave_nodes, weave_register}
use Rattle.publish.specs.Publish.{publish_out}
use Rattle.branch.specs.Branch.{branch_out}
use Rattle.read.specs.Read.{read_out, read_buffer}
use Rattle.stamp.specs.Stamp.{stamp_out}
use Rattle.answers.specs.Answers.{Said, by_open, when_open, refused_said, format_said, begin_said, put_said, assign_said, weave_said, publish_said, branch_said, no_bytes, read_said, size_said, recent_said, stamp_said, worst_said}
use Rattle.wanted.specs.declared.Wanted.{Wanted}
use Rattle.wanted.specs.declared.Change.{Change}
use Rattle.wanted.specs.declared.Look.{Look}

-- What a step that changes areas leaves of the open store, and its answer. PUT's page bytes are the first of b.
unfoldable pub change_said : Store → Change → Areas → List ℕ → Said
change_said s (Change.Put t i n) a b = put_said s (put_out s a t i (take n b))
change_said s (Change.Weave t) a b = weave_said s (weave_out s a t)
change_said s (Change.Begin n) a b = begin_said (begin_out s a n)
change_said s (Change.Write l t f) a b = assign_said (assign_out s a l t f)
change_said s (Change.Append l t) a b = assign_said (assign_out s a l t (line_in s l).blob)

-- The areas after it.
unfoldable pub change_areas : Store → Change → Areas → List ℕ → Areas
change_areas s (Change.Put t i n) a b = areas_of (put_pages s a t i (take n b)) a.nodes (put_register s a t i (take n b))
change_areas s (Change.Weave t) a b = areas_of a.pages (weave_nodes s a t) (weave_register s a t)
change_areas s (Change.Begin n) a b = with_register a (begin_register s a n)
change_areas s (Change.Write l t f) a b = with_register a (assign_register s a l t f)
change_areas s (Change.Append l t) a b = with_register a (assign_register s a l t (line_in s l).blob)

-- What a step that changes no area leaves of the open store, and its answer. The program sets no windows.
unfoldable pub look_said : Store → Look → Areas → Said
look_said s (Look.Publish l m) a = publish_said (publish_out s no_windows a l m)
look_said s (Look.Branch l v) a = branch_said (branch_out s a l v)
look_said s (Look.Size l v) a = size_said s (size_out s a l v)
look_said s (Look.Recent l) a = recent_said s (recent_out s a l)
look_said s (Look.Stamp l v p) a = stamp_said s (stamp_out s a l v p)

-- What a step on these areas leaves of what is kept, and its answer. FORMAT and WORST need no open store.
unfoldable pub step_said : Option Store → Option Wanted → Areas → List ℕ → Said
step_said k None a b = refused_said k
step_said k (Some (Wanted.Format s p n u)) a b = format_said k (format_answer (fresh s p n u) a)
step_said k (Some (Wanted.Worst r n)) a b = worst_said k (worst_for r n)
step_said k (Some (Wanted.Read l v o n)) a b =
    when_open k (λ (s : Store). read_said s n (read_buffer s a l v o n no_bytes) (read_out s a l v o n no_bytes))
step_said k (Some (Wanted.Change w)) a b = when_open k (λ (s : Store). change_said s w a b)
step_said k (Some (Wanted.Look w)) a b = when_open k (λ (s : Store). look_said s w a)

-- The areas after it.
unfoldable pub step_areas : Option Store → Option Wanted → Areas → List ℕ → Areas
step_areas k None a b = a
step_areas k (Some (Wanted.Format s p n u)) a b = format_areas (fresh s p n u) a
step_areas k (Some (Wanted.Worst r n)) a b = a
step_areas k (Some (Wanted.Read l v o n)) a b = a
step_areas k (Some (Wanted.Change w)) a b = by_open k a (λ (s : Store). change_areas s w a b)
step_areas k (Some (Wanted.Look w)) a b = a
