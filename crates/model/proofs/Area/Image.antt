-- The page area and the node area that a model with lines stands for, to the last byte. A page not put is zeros, a node not woven all ones.
-- Assumes nothing.
use Rattle.std.proofs.Common.{Option, None, Some}
use mathlib.Core.List.{List}
use Prim.Native.Nat.{ℕ}
use lib.Dec.{ltb}
use lib.ListN.{length, get_or, replicate}
use Rattle.tree.specs.Tree.{Node, node, count_of, weaving, update}
use Rattle.model.specs.History.{Page, Ticket, pages_of, to_update, updates}
use Rattle.model.specs.InTurn.{joined}
use Rattle.model.specs.Model.{Limits, Model, update_at, history, every}
use Rattle.model.specs.Layout.{slot_number}
use Rattle.model.specs.OnModel.{ticket_in, left_of, right_of, either}
use Rattle.model.proofs.Lists.Laid.{tab, one_to, cell_in, Pair, ones_pair, flat}

-- ---- pages: the slots in the order of their page numbers

abbrev pub blank : ℕ → Page
blank size = replicate size 0

abbrev pub or_blank : ℕ → Option Page → Page
or_blank size None = blank size
or_blank size (Some x) = x

abbrev pub slot_cell : ℕ → Ticket → ℕ → Page
slot_cell size k i = or_blank size (get_or k.slots i None)

abbrev pub page_cell : ℕ → List Ticket → ℕ → Page
page_cell size ks q = cell_in pages_of (slot_cell size) (blank size) ks q

-- All pages in the order of their numbers, and as bytes.
unfoldable pub page_list : Limits → Model → List Page
page_list L m = tab L.pages (page_cell L.size m.tickets)

unfoldable pub pages_image : Limits → Model → List ℕ
pages_image L m = joined (page_list L m)

-- ---- nodes: the updates' nodes in weaving order, one update after another in the order of ASSIGN

-- The two numbers of node x of update k, as the line on which it got its version has them.
abbrev pub numbers_of : Model → ℕ → Node → Pair
numbers_of m k x =
    let u = update_at m k in
    let h = history m u.line in
    (left_of h u.number (slot_number m u.ticket) x, right_of h u.number x)

abbrev pub woven_of : Model → ℕ → ℕ
woven_of m k = (ticket_in m (update_at m k).ticket).woven

-- Node j of update k.
abbrev pub node_of : Model → ℕ → ℕ → Node
node_of m k j = get_or (weaving (to_update m.tickets (update_at m k))) j (node 0 0)

abbrev pub weave_cell : Model → ℕ → ℕ → Pair
weave_cell m k j = either (ltb j (woven_of m k)) (numbers_of m k (node_of m k j)) ones_pair

abbrev pub count_at : Model → ℕ → ℕ
count_at m k = count_of (update (updates (every m)) k)

abbrev pub node_cell : Model → ℕ → Pair
node_cell m q = cell_in (count_at m) (weave_cell m) ones_pair (one_to (length m.updates)) q

unfoldable pub nodes_image : Limits → Model → List ℕ
nodes_image L m = flat (tab L.nodes (node_cell m))
