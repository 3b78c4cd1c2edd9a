-- FORMAT S, pages, nodes, updates: what it answers and leaves, over any areas.
use Rattle.std.specs.Prelude.{ℕ, length, replicate, Result}
use Rattle.tree.specs.NodeArea.{all_ones}
use Rattle.lines.specs.Lines.{no_lines}
use Rattle.register.specs.Register.{no_record}
use Rattle.table.specs.Table.{first_refusal, unless, format_rows}
use Rattle.versions.specs.declared.Store.{Store}
use Rattle.versions.specs.declared.Lengths.{Lengths}
use Rattle.format.specs.declared.Formatted.{Formatted}
use Rattle.versions.specs.Store.{Areas, lengths_of, differ}
use Rattle.windows.specs.Windows.{no_windows}
use Rattle.table.specs.Refused.{answered}

-- The store that FORMAT makes: nothing given, taken or assigned, and line 0 alone, which begins from nothing.
abbrev pub fresh : ℕ → ℕ → ℕ → ℕ → Store
fresh size pages nodes updates = record {
  size = size;
  pages = pages;
  nodes = nodes;
  updates = updates;
  tickets = record { 0 = 0 };
  taken = 0;
  assigned = 0;
  places = 0;
  begun = 1;
  sources = 0;
  lines = no_lines;
}

unfoldable pub format_refusal : Store → Lengths → ℕ
format_refusal s l = first_refusal (format_rows s.size s.pages s.nodes s.updates (differ s l))

abbrev pub format_number : Store → Areas → ℕ
format_number s a = format_refusal s (lengths_of a)

abbrev pub formatted : ℕ → Store → Result Formatted ℕ
formatted k s = answered k (record { store = s; windows = no_windows })

-- What FORMAT answers of the store that it would make, which has no windows; the areas as it leaves them: pages of 0, nodes of all ones (not stored), empty records.
abbrev pub format_answer : Store → Areas → Result Formatted ℕ
format_answer s a = formatted (format_number s a) s

abbrev pub format_areas : Store → Areas → Areas
format_areas s a = record {
  pages = unless (format_number s a) a.pages (replicate (length a.pages) 0);
  nodes = unless (format_number s a) a.nodes (replicate (length a.nodes) all_ones);
  register = unless (format_number s a) a.register (replicate (length a.register) no_record);
}
