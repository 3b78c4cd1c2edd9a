-- Where things lie: the place of each node in the node area, and the number of each page in the page area.
-- An update's nodes are told by their index in weaving order; a page by its serial number, how many pages BEGIN had given before it, which never changes.
use Rattle.std.specs.Prelude.{Bool, List, [], ◌∷◌, ℕ, zero, suc, pred, ◌+◌, ◌-◌, ltb, length}
use Rattle.tree.specs.Tree.{Update, count_of, update}
use Rattle.model.specs.History.{Ticket, History, pages_of, version_at, to_update, updates}
use Rattle.model.specs.Model.{Model, update_at, history, every}

-- ---- nodes

-- The nodes of updates 1 .. k.
unfoldable pub nodes_upto : List Update → ℕ → ℕ
nodes_upto us zero = 0
nodes_upto us (suc k) = nodes_upto us k + count_of (update us (suc k))

-- Node i of update k lies in the node area.
unfoldable pub node_stands : Model → ℕ → ℕ → Bool
node_stands m k i = ltb i (count_of (to_update m.tickets (update_at m k)))

-- Its place: after the nodes of all updates before it, in the order of ASSIGN.
unfoldable pub node_place : Model → ℕ → ℕ → ℕ
node_place m k i = nodes_upto (updates (every m)) (pred k) + i

-- The node places that all updates use.
unfoldable pub nodes_used : Model → ℕ
nodes_used m = nodes_upto (updates (every m)) (length m.updates)

-- ---- pages

-- The pages of tickets 1 .. t, n each.
unfoldable pub pages_upto : List Ticket → ℕ → ℕ
pages_upto ks zero = 0
pages_upto [] (suc t) = 0
pages_upto (k ∷ ks) (suc t) = pages_of k + pages_upto ks t

-- The serial number of the page of slot i of ticket t: a ticket's pages follow each other, after those of all lower tickets.
unfoldable pub serial_of : List Ticket → ℕ → ℕ → ℕ
serial_of ks t i = pages_upto ks (pred t) + i

-- That of version v's page a.
abbrev pub leaf_serial : History → ℕ → ℕ → ℕ
leaf_serial h v a = serial_of h.tickets (version_at h v).ticket (a - (version_at h v).f)

-- The page of serial number s lies in the page area.
unfoldable pub page_stands : Model → ℕ → Bool
page_stands m s = ltb s (pages_upto m.tickets (length m.tickets))

-- Its page number.
unfoldable pub number_of_page : Model → ℕ → ℕ
number_of_page m s = s

-- The page numbers that all tickets use.
unfoldable pub pages_used : Model → ℕ
pages_used m = pages_upto m.tickets (length m.tickets)

-- Both of the page of slot i of ticket t: whether it lies there, and its page number.
abbrev pub slot_stands : Model → ℕ → ℕ → Bool
slot_stands m t i = page_stands m (serial_of m.tickets t i)

abbrev pub slot_number : Model → ℕ → ℕ → ℕ
slot_number m t i = number_of_page m (serial_of m.tickets t i)

-- The page number of page a of line l's version v.
abbrev pub leaf_number : Model → ℕ → ℕ → ℕ → ℕ
leaf_number m l v a = number_of_page m (leaf_serial (history m l) v a)

-- All that where things lie computes with: what unfolds this unfolds every definition listed here.
unfoldable pub layout : ℕ
unfolding nodes_upto node_stands node_place nodes_used pages_upto serial_of page_stands number_of_page pages_used
layout = 0
