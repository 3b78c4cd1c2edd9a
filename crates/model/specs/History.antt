-- What one line reads as, document 01's plain model of one line: the tickets in order, its versions in order, and the number published.
use Rattle.std.specs.Prelude.{Bool, true, false, ◌&&◌, List, [], ◌∷◌, map, ℕ, suc, ◌+◌, ◌-◌, ltb, eqb, length, Option, None, Some}
use Rattle.tree.specs.Tree.{Update, count_of, nth, update}

-- A page's bytes.
abbrev pub Page : Type 0
Page = List ℕ

-- A ticket: its n slots, each empty or filled by PUT, and how many of its nodes are woven.
pub record Ticket : Type 0 where
  pub slots : List (Option Page)
  pub woven : ℕ

-- A version: its ticket, the line on which it got its number, that number, the first page of its update, and the size in pages after it.
pub record Version : Type 0 where
  pub ticket : ℕ
  pub line : ℕ
  pub number : ℕ
  pub f : ℕ
  pub size : ℕ

pub record History : Type 0 where
  pub tickets : List Ticket
  pub versions : List Version
  pub published : ℕ

abbrev pub no_ticket : Ticket
no_ticket = record { slots = []; woven = 0 }

-- A ticket with other slots, and with another number of its nodes woven.
abbrev pub with_slots : Ticket → List (Option Page) → Ticket
with_slots k slots = record { slots = slots; woven = k.woven }

abbrev pub with_woven : Ticket → ℕ → Ticket
with_woven k woven = record { slots = k.slots; woven = woven }

-- A version of ticket t, number v of line l, its update from page f on, of so many pages after it.
abbrev pub version_by : ℕ → ℕ → ℕ → ℕ → ℕ → Version
version_by t l v f size = record { ticket = t; line = l; number = v; f = f; size = size }

abbrev pub no_version : Version
no_version = version_by 0 0 0 0 0

-- What a line with these versions reads as, so many of them published.
abbrev pub history_of : List Ticket → List Version → ℕ → History
history_of tickets versions published = record { tickets = tickets; versions = versions; published = published }

-- A ticket's n.
abbrev pub pages_of : Ticket → ℕ
pages_of k = length k.slots

-- Ticket t and version v, counted from 1.
abbrev pub ticket_at : History → ℕ → Ticket
ticket_at m t = nth no_ticket m.tickets t

abbrev pub version_at : History → ℕ → Version
version_at m v = nth no_version m.versions v

-- The update of a version: n pages from f on.
abbrev pub to_update : List Ticket → Version → Update
to_update ks v = record { f = v.f; last = v.f + pages_of (nth no_ticket ks v.ticket) - 1; size = v.size }

-- The updates by version.
abbrev pub updates : History → List Update
updates m = map (to_update m.tickets) m.versions

-- The size in pages of the last assigned version, 0 where there is none.
abbrev pub blob_size : History → ℕ
blob_size m = (version_at m (length m.versions)).size

abbrev pub is_filled : Option Page → Bool
is_filled None = false
is_filled (Some x) = true

abbrev pub bit_if : Bool → ℕ
bit_if true = 1
bit_if false = 0

-- Every slot is filled.
unfoldable pub all_filled : List (Option Page) → Bool
all_filled [] = true
all_filled (x ∷ xs) = is_filled x && all_filled xs

-- A version is complete: as many nodes woven as its node count.
unfoldable pub complete : History → ℕ → Bool
complete m v = eqb (ticket_at m (version_at m v).ticket).woven (count_of (update (updates m) v))

-- PUBLISH is due: the version after the last published one is there and complete.
unfoldable pub due : History → Bool
due m = ltb m.published (length m.versions) && complete m (suc m.published)
