-- What every call keeps true of the model with lines.
-- Assumes nothing.
use Rattle.std.proofs.Common.{None, Some}
use mathlib.Core.Path.{◌≡◌}
use mathlib.Core.Bool.{true}
use Prim.Native.Nat.{ℕ, ◌≤◌, ◌<◌}
use lib.ListN.{length, get_or}
use Rattle.tree.specs.Tree.{count_of, nth}
use Rattle.tree.specs.Walk.{Accepted}
use Rattle.windows.specs.Windows.{inside, inside_some}
use Rattle.model.specs.History.{Page, pages_of, to_update, updates, all_filled, complete}
use Rattle.model.specs.Model.{Limits, Model, line_at, update_at, history, ticket_update}
use Rattle.model.specs.Layout.{nodes_used, pages_used}
use Rattle.model.specs.OnModel.{ticket_in}

-- FORMAT's limits, as far as the calls rest on them.
pub record Allowed (L : Limits) : Type 0 where
  pub some_page : 0 < L.size
  pub page_size : L.size ≤ 4096
  pub pages : L.pages ≤ 65535
  pub nodes : L.nodes ≤ 131072
  pub updates : L.updates ≤ 4096

-- Ticket number t.
pub record TicketSound (L : Limits) (m : Model) (t : ℕ) : Type 0 where
  pub some-pages : 0 < pages_of (ticket_in m t)
  pub few : pages_of (ticket_in m t) ≤ 64
  -- Every page put is S bytes long.
  pub bytes : (i : ℕ) (x : Page) → get_or (ticket_in m t).slots i None ≡ Some x → length x ≡ L.size
  -- No node is woven before ASSIGN.
  pub unwoven : ticket_update m t ≡ 0 → (ticket_in m t).woven ≡ 0

-- Update number k, in the order of ASSIGN.
pub record UpdateSound (m : Model) (k : ℕ) : Type 0 where
  pub from : 0 < (update_at m k).ticket
  pub upto : (update_at m k).ticket ≤ length m.tickets
  -- A ticket has one update.
  pub back : ticket_update m (update_at m k).ticket ≡ k
  pub puts : all_filled (ticket_in m (update_at m k).ticket).slots ≡ true
  pub woven : (ticket_in m (update_at m k).ticket).woven ≤ count_of (to_update m.tickets (update_at m k))
  pub inside : (to_update m.tickets (update_at m k)).last < 4096
  pub upward : (update_at m k).size ≤ 4096
  -- Its line shows it, as a version of its own by its number.
  pub line : (update_at m k).line < length m.lines
  pub own : (line_at m (update_at m k).line).start < (update_at m k).number
  pub shown : nth 0 (line_at m (update_at m k).line).shown (update_at m k).number ≡ k

-- Line number l.
pub record LineSound (m : Model) (l : ℕ) : Type 0 where
  -- Line 0 begins from nothing, every other from a lower one.
  pub first : l ≡ 0 → (line_at m l).start ≡ 0
  pub source : 0 < l → (line_at m l).source < l
  pub started : (line_at m l).start ≤ (line_at m l).published
  pub published : (line_at m l).published ≤ length (line_at m l).shown
  pub sourced : 0 < l → (line_at m l).start ≤ (line_at m (line_at m l).source).published
  -- Each version is an update, by that number; one above the start is the line's own, one up to it the source's.
  pub some : (v : ℕ) → 0 < v → v ≤ length (line_at m l).shown → 0 < nth 0 (line_at m l).shown v
  pub most : (v : ℕ) → 0 < v → v ≤ length (line_at m l).shown → nth 0 (line_at m l).shown v ≤ length m.updates
  pub number : (v : ℕ) → 0 < v → v ≤ length (line_at m l).shown → (update_at m (nth 0 (line_at m l).shown v)).number ≡ v
  pub own : (v : ℕ) → (line_at m l).start < v → v ≤ length (line_at m l).shown → (update_at m (nth 0 (line_at m l).shown v)).line ≡ l
  pub shared : (v : ℕ) → 0 < l → 0 < v → v ≤ (line_at m l).start → nth 0 (line_at m l).shown v ≡ nth 0 (line_at m (line_at m l).source).shown v
  -- Its updates are accepted one after the other, and what is published is complete.
  pub accepted : (v : ℕ) → v < length (line_at m l).shown → Accepted (updates (history m l)) v
  pub woven : (v : ℕ) → 0 < v → v ≤ (line_at m l).published → complete (history m l) v ≡ true

-- The calls keep it whatever the limits are: A is what is known of them.
pub record SoundGiven (A : Type 0) (L : Limits) (m : Model) : Type 0 where
  pub allowed : A
  pub records : length m.tickets ≤ L.updates
  pub fewer : length m.updates ≤ length m.tickets
  pub page_room : pages_used m ≤ L.pages
  pub node_room : nodes_used m ≤ L.nodes
  pub tickets : (t : ℕ) → 0 < t → t ≤ length m.tickets → TicketSound L m t
  pub updated : (k : ℕ) → 0 < k → k ≤ length m.updates → UpdateSound m k
  pub begun : 0 < length m.lines
  pub few : length m.lines ≤ 16
  pub lines : (l : ℕ) → l < length m.lines → LineSound m l
  -- None of the windows has equal ends, at which `inside` would end.
  pub windows : (minute : ℕ) → inside m.windows minute ≡ inside_some m.windows minute

-- Sound, with limits that FORMAT accepts.
abbrev pub Sound : Limits → Model → Type 0
Sound L m = SoundGiven (Allowed L) L m
