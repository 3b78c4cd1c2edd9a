-- The plain model with lines: the tickets in order, all updates in the order of ASSIGN, the lines in the order in which they begin, and the site's windows. A line
-- shows its versions, the shared ones and then its own, by their updates' numbers in that order. It is fed S, the capacities and the steps' arguments only.
use Rattle.std.specs.Prelude.{true, false, List, [], ◌∷◌, map, ℕ, zero, suc, ◌+◌, ◌*◌, eqb, get_or}
use Rattle.tree.specs.Tree.{nth}
use Rattle.model.specs.History.{Ticket, Version, History, no_version, history_of}
use Rattle.windows.specs.declared.Window.{Window}

-- S and the three capacities.
pub record Limits : Type 0 where
  pub size : ℕ
  pub pages : ℕ
  pub nodes : ℕ
  pub updates : ℕ

-- A line: the line and the version that it begins from, the updates that it shows as its versions 1, 2 .., and the number published.
pub record Line : Type 0 where
  pub source : ℕ
  pub start : ℕ
  pub shown : List ℕ
  pub published : ℕ

pub record Model : Type 0 where
  pub tickets : List Ticket
  pub updates : List Version
  pub lines : List Line
  pub windows : List Window

-- It starts with no ticket, no update, line 0 with no version, and no windows.
abbrev pub no_line : Line
no_line = record { source = 0; start = 0; shown = []; published = 0 }

abbrev pub no_model : Model
no_model = record { tickets = []; updates = []; lines = no_line ∷ []; windows = [] }

-- A line that begins from version v of line l, shows these updates, and has v published; a line that shows others, and one with another number published.
abbrev pub line_from : ℕ → ℕ → List ℕ → Line
line_from l v shown = record { source = l; start = v; shown = shown; published = v }

abbrev pub with_shown : Line → List ℕ → Line
with_shown x shown = record { source = x.source; start = x.start; shown = shown; published = x.published }

abbrev pub with_published : Line → ℕ → Line
with_published x published = record { source = x.source; start = x.start; shown = x.shown; published = published }

-- The model with other tickets, updates, lines or windows.
abbrev pub with_tickets : Model → List Ticket → Model
with_tickets m tickets = record { tickets = tickets; updates = m.updates; lines = m.lines; windows = m.windows }

abbrev pub with_updates : Model → List Version → Model
with_updates m updates = record { tickets = m.tickets; updates = updates; lines = m.lines; windows = m.windows }

abbrev pub with_lines : Model → List Line → Model
with_lines m lines = record { tickets = m.tickets; updates = m.updates; lines = lines; windows = m.windows }

abbrev pub with_site_windows : Model → List Window → Model
with_site_windows m windows = record { tickets = m.tickets; updates = m.updates; lines = m.lines; windows = windows }

-- Line l, from 0; update k, from 1.
abbrev pub line_at : Model → ℕ → Line
line_at m l = get_or m.lines l no_line

abbrev pub update_at : Model → ℕ → Version
update_at m k = nth no_version m.updates k

-- What a line reads as: the shared updates followed by its own.
abbrev pub history : Model → ℕ → History
history m l = history_of m.tickets (map (update_at m) (line_at m l).shown) (line_at m l).published

-- All updates in the order of ASSIGN.
abbrev pub every : Model → History
every m = history_of m.tickets m.updates 0

-- The update that ticket t got, or 0; k is the number of the first update listed.
unfoldable pub update_from : ℕ → List Version → ℕ → ℕ
update_from k [] t = 0
update_from k (x ∷ xs) t = elim (eqb x.ticket t) [ true ↦ k | false ↦ update_from (suc k) xs t ]

abbrev pub ticket_update : Model → ℕ → ℕ
ticket_update m t = update_from 1 m.updates t

-- A version's number in the node area: line × 65,536 + version, of the line on which it got its number; 0 for none.
abbrev pub numbered : ℕ → ℕ → ℕ
numbered l zero = 0
numbered l (suc v) = l * 65536 + suc v

-- The number of version v of a history.
abbrev pub number_in : History → ℕ → ℕ
number_in h v = numbered (nth no_version h.versions v).line v
