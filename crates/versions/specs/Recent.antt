-- RECENT line: what it answers, over any store and areas.
use Rattle.std.specs.Prelude.{◌∷◌, ℕ, Result}
use Rattle.table.specs.Table.{◌gives◌, never, every_call, first_refusal, line_rows}
use Rattle.versions.specs.declared.Store.{Store}
use Rattle.versions.specs.declared.Lengths.{Lengths}
use Rattle.versions.specs.Store.{Areas, differ, areas_differ, lines_in, line_in}
use Rattle.table.specs.Refused.{answered}
use Rattle.tree.specs.declared.Version.{Version}

-- Rows 3 and 20, with which PUBLISH and RECENT begin.
unfoldable pub line_refusal : Store → Lengths → ℕ → ℕ
line_refusal s g l = first_refusal ((differ s g gives 3) ∷ line_rows l (lines_in s))

unfoldable pub recent_number : Store → Areas → ℕ → ℕ
recent_number s a l = first_refusal (every_call (areas_differ s a) (line_rows l (lines_in s)) never)

abbrev pub recent_out : Store → Areas → ℕ → Result Version ℕ
recent_out s a l = answered (recent_number s a l) (line_in s l).published
