-- WEAVE ticket, with the ticket's record r and the part q of its update: what it answers and leaves, over any store and areas.
use Rattle.std.specs.Prelude.{Bool, true, false, ◌||◌, List, [], ℕ, zero, suc, pred, ◌+◌, ◌-◌, ◌%◌, ◌^◌, leb, ltb, eqb, Result}
use Rattle.tree.specs.Tree.{Node, node}
use Rattle.tree.specs.Place.{node_numbered}
use Rattle.tree.specs.Contract.{height_in}
use Rattle.tree.specs.NodeArea.{with_node}
use Rattle.lines.specs.Lines.{pick, number_of, line_of, version_of}
use Rattle.register.specs.Register.{update_of, part_of, woven_to, with_update_fields, with_record, version_part, newest_own}
use Rattle.register.specs.declared.Record.{Record}
use Rattle.register.specs.declared.Part.{Part}
use Rattle.table.specs.Table.{Cond, ◌≤?◌, ◌<?◌, ◌or◌, never, every_call, first_refusal, or_else, unless, weave_rows}
use Rattle.versions.specs.declared.Store.{Store}
use Rattle.versions.specs.declared.Lengths.{Lengths}
use Rattle.weave.specs.declared.WovenNode.{WovenNode}
use Rattle.versions.specs.Store.{Areas, areas_of, lengths_of, differ, record_of, line_in, number_on}
use Rattle.walk.specs.FindPage.{reach_from}
use Rattle.descent.specs.Places.{or_most}
use Rattle.table.specs.Refused.{answered}

-- The next node in weaving order, by what the part says of its tree.
unfoldable pub next_node : Part → Node
next_node q = node_numbered (update_of q).f (height_in q.span) q.past q.woven

-- The first node place of an update, and the next node's.
abbrev pub place_of : Part → ℕ
place_of q = q.top - height_in q.span

abbrev pub next_place : Part → ℕ
next_place q = place_of q + q.woven

-- The page number of the leaf at page p.
abbrev pub leaf_number : Record → Part → ℕ → ℕ
leaf_number r q p = r.number + (p - (update_of q).f)

-- A leaf's page number lies past the page area.
abbrev pub leaf_past : Store → Record → Part → Node → Cond
leaf_past s r q (node p zero) = s.pages ≤? leaf_number r q p
leaf_past s r q (node p (suc h)) = never

unfoldable pub weave_refusal : Store → Lengths → Record → Part → ℕ → ℕ
weave_refusal s g r q t =
    first_refusal
    (every_call
    (differ s g)
    (weave_rows (t ≤? s.updates) (r.update ≤? s.updates) t s.tickets.0 r.update q.woven q.count)
    (s.updates <? t or s.updates <? r.update or s.nodes ≤? next_place q or leaf_past s r q (next_node q)))

-- The update of ticket t, its record, and what that says of it.
abbrev pub woven_update : Areas → ℕ → ℕ
woven_update a t = (record_of a t).update

abbrev pub woven_record : Areas → ℕ → Record
woven_record a t = record_of a (woven_update a t)

abbrev pub woven_part : Areas → ℕ → Part
woven_part a t = part_of (woven_record a t)

-- The number of the newest update below the version numbered c, on its line, that meets the 2 ^ h pages from a on, stored or not; 0 for none. It is looked for among the
-- updates after the line's last published version; where none of them meets the pages, that version's tree has it: the node of height h over page a. The largest number of 64
-- bits where a node on the way is not stored, which is so in no run.
unfoldable pub older_number : Store → List ℕ → List Record → ℕ → ℕ → ℕ → ℕ
older_number x nodes rs c a h =
    let l = line_of c in
    let v = (line_in x l).published.0 in
    let own = newest_own rs l v (version_of c - 1) a (2 ^ h) in
    let d = number_on x l v in
    pick (ltb 0 own) (number_of l own) (or_most (reach_from (areas_of [] nodes rs) d (version_part rs d).span a h))

-- The update with the part q meets the left half of a node of its own that is parted at page m, and the right one.
abbrev pub meets_left : Part → ℕ → Bool
meets_left q m = ltb (update_of q).f m

abbrev pub meets_right : Part → ℕ → Bool
meets_right q m = leb m (update_of q).last

-- What was looked for, for a half that the update does not meet, is lost.
abbrev pub lost_half : Bool → ℕ → Bool
lost_half true n = false
lost_half false n = eqb n (2 ^ 64 - 1)

abbrev pub lost_child : Store → List ℕ → List Record → Part → Node → Bool
lost_child x nodes rs q (node p zero) = false
lost_child x nodes rs q (node p (suc h)) =
    let m = p + 2 ^ h in
    lost_half (meets_left q m) (older_number x nodes rs q.name p h) || lost_half (meets_right q m) (older_number x nodes rs q.name m h)

abbrev pub lost_by : Bool → ℕ
lost_by true = 19
lost_by false = 0

abbrev pub weave_number : Store → Areas → ℕ → ℕ
weave_number s a t =
    let q = woven_part a t in
    or_else (weave_refusal s (lengths_of a) (record_of a t) q t) (lost_by (lost_child s a.nodes a.register q (next_node q)))

-- A number as the node area keeps it, in 32 bits.
abbrev pub kept : ℕ → ℕ
kept x = x % 2 ^ 32

-- A node's two numbers: for a child the version's own where its update meets that half, else the newest update below it that does; for a leaf its page number and 0.
abbrev pub left_number : Store → List ℕ → List Record → Record → Part → Node → ℕ
left_number x nodes rs r q (node p zero) = kept (leaf_number r q p)
left_number x nodes rs r q (node p (suc h)) = kept (pick (meets_left q (p + 2 ^ h)) q.name (older_number x nodes rs q.name p h))

abbrev pub right_number : Store → List ℕ → List Record → Part → Node → ℕ
right_number x nodes rs q (node p zero) = 0
right_number x nodes rs q (node p (suc h)) = kept (pick (meets_right q (p + 2 ^ h)) q.name (older_number x nodes rs q.name (p + 2 ^ h) h))

abbrev pub first_page : Node → ℕ
first_page (node p h) = p

abbrev pub span_of : Node → ℕ
span_of (node p h) = 2 ^ h

-- A record with one node more woven.
abbrev pub with_woven : Record → Record
with_woven r = with_update_fields r r.ticket (woven_to (part_of r) (suc r.woven))

-- The node that is stored, and what is left after it.
abbrev pub woven_node : Store → List ℕ → List Record → Record → Part → Node → WovenNode
woven_node s nodes rs r q x = record {
  version = q.name;
  first = record { 0 = first_page x };
  span = span_of x;
  left = left_number s nodes rs r q x;
  right = right_number s nodes rs q x;
  rest = q.count - suc q.woven;
}

abbrev pub node_of : Store → Areas → ℕ → WovenNode
node_of s a t = woven_node s a.nodes a.register (record_of a t) (woven_part a t) (next_node (woven_part a t))

abbrev pub weave_out : Store → Areas → ℕ → Result WovenNode ℕ
weave_out s a t = answered (weave_number s a t) (node_of s a t)

abbrev pub weave_nodes : Store → Areas → ℕ → List ℕ
weave_nodes s a t =
    unless (weave_number s a t) a.nodes (with_node a.nodes (next_place (woven_part a t)) (node_of s a t).left (node_of s a t).right)

abbrev pub weave_register : Store → Areas → ℕ → List Record
weave_register s a t =
    unless (weave_number s a t) a.register (with_record a.register (pred (woven_update a t)) (with_woven (woven_record a t)))
