-- Where things lie: the laws by which a call reads and changes the areas, and by which what lies there stays. What rests on the layout cites these alone, and
-- they ask of a node or page that it stands, also where today all do: so a layout in which some do not changes this file and the definitions, and no other.
-- Assumes nothing.
use Rattle.std.proofs.Common.{Option, None, Some}
use mathlib.Core.Path.{◌≡◌, refl, sym, ap, ◌∙◌}
use mathlib.Core.Logic.{◌⊎◌, inl, inr}
use mathlib.Core.Bool.{true}
use mathlib.Core.List.{List, [], ◌∷◌}
use Prim.Native.Nat.{ℕ, zero, suc, pred, ◌+◌, ◌-◌, ◌*◌, ◌^◌, ◌≤◌, ◌<◌}
use native.Mathlib.Nat.{suc_inj, add-zero}
use native.Mathlib.Omega.{arith}
use borrow.Author.Tests.{lt-ltb, ltb-true}
use lib.ListN.{length, get_or, set, length-replicate}
use Rattle.tree.specs.Tree.{Update, count_of, nth, update, height_of}
use Rattle.tree.specs.Place.{first, index}
use Rattle.tree.specs.NodeArea.{all_ones, node_at, with_node, stored}
use Rattle.tree.specs.Walk.{version_over, leaf_version}
use Rattle.tree.proofs.At.{at_lt}
use Rattle.tree.proofs.Meets.{lt-or-le}
use Rattle.tree.proofs.Newest.{newest-le}
use Rattle.tree.proofs.Walk.{newest-order}
use Rattle.model.specs.History.{Page, Ticket, no_ticket, pages_of, version_at, to_update, updates}
use Rattle.model.specs.InTurn.{joined}
use Rattle.model.specs.Model.{Limits, Model, no_model, line_at, update_at, history, every, ticket_update}
use Rattle.model.specs.Layout.{nodes_upto, node_stands, node_place, nodes_used, pages_upto, serial_of, leaf_serial, page_stands, number_of_page, pages_used, slot_stands, slot_number}
use Rattle.model.specs.OnModel.{ticket_in}
use Rattle.model.proofs.Lists.Laid.{tab, one_to, cell_in, Pair, ones_pair, flat}
use Rattle.model.proofs.Area.Image.{blank, or_blank, slot_cell, page_cell, page_list, pages_image, weave_cell, count_at, node_cell, nodes_image}
use Rattle.model.proofs.Lists.Tab.{length-tab, get_or-tab, tab-same, tab-set}
use Rattle.model.proofs.Lists.Cells.{before, before_more, before-lt, locate, inside, outside, cell_at, cell-past, cell-but, numbered-at, numbered-cell, numbered_more, numbered-before, numbered-changed, numbered-but, numbered-same}
use Rattle.model.proofs.Lists.Pairs.{length_pairs, node-stored, node-put as pair_put}
use Rattle.model.proofs.Lists.Blocks.{Blocks, blocks-tab, length-joined}
use Rattle.model.proofs.Model.Sound.{SoundGiven, Sound}
use Rattle.model.proofs.History.SoundHistory.{line-history, weaving-count}
use Rattle.model.proofs.Model.Shown.{shown_at, versions-length, update-shown, every-update}
use Rattle.model.proofs.Calls.Grows.{Grown, update-grown}
use Rattle.model.proofs.History.Blob.{leaf-bounds}

-- ---- the sums: of nodes by update, of pages by ticket

count-update : (m : Model) (k : ℕ) → count_at m k ≡ count_of (to_update m.tickets (update_at m k))
count-update m k = ap count_of (every-update m k)

nodes-before : (us : List Update) (n v : ℕ) → v ≤ n → nodes_upto us v ≡ before (λ w. count_of (update us w)) (one_to n) v
unfolding nodes_upto before
nodes-before us n zero h = refl
nodes-before us n (suc v) h =
    let r = nodes-before us n v (omega arith) in
    let m = before_more (λ w. count_of (update us w)) (one_to n) v 0 (rw length-tab h) in
    omega (arith, rw (numbered-at n v 0 h) at m)

pages-before : (ks : List Ticket) (t : ℕ) → pages_upto ks t ≡ before pages_of ks t
unfolding pages_upto before
pages-before ks zero = refl
pages-before [] (suc t) = refl
pages-before (k ∷ ks) (suc t) = ap (λ n. pages_of k + n) (pages-before ks t)

-- ---- nodes: which stand, and where

module _ (m : Model) (k i : ℕ) where
  -- Every node of an update stands, and nothing else.
  pub stands-every : i < count_of (to_update m.tickets (update_at m k)) → node_stands m k i ≡ true
  unfolding node_stands
  stands-every h = lt-ltb i (count_of (to_update m.tickets (update_at m k))) h

  pub stands-few : node_stands m k i ≡ true → i < count_of (to_update m.tickets (update_at m k))
  unfolding node_stands
  stands-few e = ltb-true i (count_of (to_update m.tickets (update_at m k))) e

  -- Where all nodes before it stand, a node lies so many places after the first.
  pub place-from : ((j : ℕ) → j < i → node_stands m k j ≡ true) → node_place m k i ≡ node_place m k 0 + i
  unfolding node_place
  place-from h = let u = nodes_upto (updates (every m)) (pred k) in let e : u + i ≡ u + 0 + i = omega arith in e

-- Of an update that its line has not published every node stands.
pub stands-unpublished : (m : Model) (k i : ℕ) → (line_at m (update_at m k).line).published < (update_at m k).number
    → i < count_of (to_update m.tickets (update_at m k)) → node_stands m k i ≡ true
stands-unpublished m k i late h = stands-every m k i h

-- Of a version of a line every node stands that its root leads to.
pub stands_live : (L : Limits) (m : Model) → Sound L m → (l : ℕ) → l < length m.lines → (k : ℕ) → k ≤ length (line_at m l).shown
    → (p j : ℕ) → 0 < version_over (updates (history m l)) k p j → j ≤ height_of (updates (history m l)) k → p < 2 ^ height_of (updates (history m l)) k
    → let us = updates (history m l) in
    let w = version_over us k p j in
    node_stands m (shown_at m l w) (index (update us w).f (update us w).last 0 (height_of us w) p j) ≡ true
stands_live L m S l there k h p j o q r =
    let us = updates (history m l) in
    let w = version_over us k p j in
    let H = line-history L m S l there in
    let order = newest-order us k (λ v z. H.accepted v (omega (arith, versions-length m l))) p j o q r in
    let few = at_lt order in
    let c = weaving-count L (history m l) H w o (omega (arith, newest-le us k (first p j) (2 ^ j), versions-length m l)) in
    let e = ap count_of (update-shown m l w) in
    stands-every m (shown_at m l w) _ (omega arith)

place-before : (m : Model) (k i : ℕ) → 0 < k → k ≤ length m.updates → node_place m k i ≡ before (count_at m) (one_to (length m.updates)) (pred k) + i
unfolding node_place
place-before m k i o h = ap (λ (n : ℕ). n + i) (nodes-before (updates (every m)) (length m.updates) (pred k) (omega arith))

few-count : (m : Model) (k i : ℕ) → node_stands m k i ≡ true → i < count_at m k
few-count m k i s = rw (count-update m k) (stands-few m k i s)

module _ {A : Type 0} (L : Limits) (m : Model) (S : SoundGiven A L m) (k i : ℕ) (o : 0 < k) (h : k ≤ length m.updates) (s : node_stands m k i ≡ true) where
  pub place-room : node_place m k i < L.nodes
  unfolding nodes_used
  place-room =
      let n = length m.updates in
      let e : get_or (one_to n) (pred k) 0 ≡ k = numbered-at n (pred k) 0 (omega arith) ∙ omega arith in
      let b = rw e at (before-lt (count_at m) (one_to n) (pred k) n 0 (omega arith) (omega (arith, length-tab n suc))) in
      omega (arith, place-before m k i o h, few-count m k i s, S.node_room, nodes-before (updates (every m)) n n (omega arith))

-- ---- the node area

pub length-nodes : (L : Limits) (m : Model) → length (nodes_image L m) ≡ 2 * L.nodes
unfolding nodes_image
length-nodes L m = length_pairs L.nodes (node_cell m)

-- A node that stands is read at its place.
pub node-read : {A : Type 0} (L : Limits) (m : Model) → SoundGiven A L m → (k i l r : ℕ) → 0 < k → k ≤ length m.updates → node_stands m k i ≡ true
    → weave_cell m k i ≡ (l, r) → (l ≡ all_ones → ⊥) ⊎ (r ≡ all_ones → ⊥) → node_at (nodes_image L m) (node_place m k i) ≡ stored l r
unfolding nodes_image
node-read L m S k i l r o h s e d =
    let n = length m.updates in
    let c : node_cell m (node_place m k i) ≡ (l, r) =
    ap (node_cell m) (place-before m k i o h) ∙ numbered-cell (count_at m) (weave_cell m) ones_pair n k i o h (few-count m k i s) ∙ e in
    rw c at (node-stored L.nodes (node_cell m) (node_place m k i) (place-room L m S k i o h s) (rw c d))

-- ---- two models, of which the second grew from the first

module _ (m m' : Model) (g : Grown m m') where
  count_kept : (k : ℕ) → 0 < k → k ≤ length m.updates → count_at m k ≡ count_at m' k
  count_kept k o h = count-update m k ∙ sym (ap count_of (update-grown m m' g k h)) ∙ sym (count-update m' k)

  nodes-upto-kept : (v : ℕ) → v ≤ length m.updates → nodes_upto (updates (every m')) v ≡ nodes_upto (updates (every m)) v
  nodes-upto-kept v h =
      let n = length m.updates in
      nodes-before (updates (every m')) n v h
      ∙ sym (numbered-before (count_at m) (weave_cell m) (count_at m') (weave_cell m') ones_pair n count_kept v)
      ∙ sym (nodes-before (updates (every m)) n v h)

  pub place_kept : (k i : ℕ) → k ≤ length m.updates → node_place m' k i ≡ node_place m k i
  unfolding node_place
  place_kept k i h = ap (λ (n : ℕ). n + i) (nodes-upto-kept (pred k) (omega arith))

  pub nodes-used-kept : length m'.updates ≡ length m.updates → nodes_used m' ≡ nodes_used m
  unfolding nodes_used
  nodes-used-kept e = rw e (nodes-upto-kept (length m.updates) (omega arith))

  module _ (more : length m'.updates ≡ suc (length m.updates)) where
    -- All nodes of a new update stand.
    pub nodes-used-more : ((i : ℕ) → i < count_of (to_update m'.tickets (update_at m' (suc (length m.updates)))) → node_stands m' (suc (length m.updates)) i ≡ true)
        → nodes_used m' ≡ nodes_used m + count_of (to_update m'.tickets (update_at m' (suc (length m.updates))))
    unfolding nodes_used nodes_upto
    nodes-used-more s = rw (more, every-update m' (suc (length m.updates)), nodes-upto-kept (length m.updates) (omega arith))

    pub place-new : node_place m' (suc (length m.updates)) 0 ≡ nodes_used m
    unfolding node_place nodes_used
    place-new = add-zero (nodes_upto (updates (every m')) (length m.updates)) ∙ nodes-upto-kept (length m.updates) (omega arith)

  -- The nodes that stood have the same two numbers.
  abbrev pub NodesSame : Type 0
  NodesSame = (k i : ℕ) → 0 < k → k ≤ length m.updates → node_stands m k i ≡ true → weave_cell m k i ≡ weave_cell m' k i

  cells_same : NodesSame → (q : ℕ) → cell_in (count_at m) (weave_cell m) ones_pair (one_to (length m.updates)) q
      ≡ cell_in (count_at m') (weave_cell m') ones_pair (one_to (length m.updates)) q
  cells_same c q =
      numbered-same (count_at m) (weave_cell m) (count_at m') (weave_cell m') ones_pair (length m.updates) count_kept
      (λ k i o h l. c k i o h (stands-every m k i (rw (count-update m k) at l))) q

  pub nodes-same : (L : Limits) → length m'.updates ≡ length m.updates → NodesSame → nodes_image L m ≡ nodes_image L m'
  unfolding nodes_image
  nodes-same L e c = ap flat (tab-same L.nodes (node_cell m) (node_cell m') (λ q h. rw e (cells_same c q)))

  -- A new update, none of whose nodes is stored.
  pub nodes-grow : (L : Limits) → length m'.updates ≡ suc (length m.updates) → NodesSame
      → ((i : ℕ) → weave_cell m' (suc (length m.updates)) i ≡ ones_pair) → nodes_image L m ≡ nodes_image L m'
  unfolding nodes_image
  nodes-grow L e c d =
      ap flat (tab-same L.nodes (node_cell m) (node_cell m') (λ q h.
      rw e (cells_same c q ∙ sym (numbered_more (count_at m') (weave_cell m') ones_pair (length m.updates) (λ i s. d i) q))))

  -- One node stored at its place.
  pub node-put : {A : Type 0} (L : Limits) → SoundGiven A L m → length m'.updates ≡ length m.updates
      → (v j l r : ℕ) → 0 < v → v ≤ length m.updates → node_stands m v j ≡ true
      → ((k i : ℕ) → 0 < k → k ≤ length m.updates → node_stands m k i ≡ true → (k ≡ v → i ≡ j → ⊥) → weave_cell m k i ≡ weave_cell m' k i)
      → weave_cell m' v j ≡ (l, r) → with_node (nodes_image L m) (node_place m v j) l r ≡ nodes_image L m'
  unfolding nodes_image
  node-put L S long v j l r o h s others here =
      let n = length m.updates in
      let b = place-before m v j o h in
      let all : ℕ → ℕ → Pair = λ i q. cell_in (count_at m') (weave_cell m') ones_pair (one_to i) q in
      pair_put L.nodes (node_cell m) (node_cell m') (node_place m v j) l r (place-room L m S v j o h s)
      (λ q z e.
      numbered-but (count_at m) (weave_cell m) (count_at m') (weave_cell m') ones_pair n count_kept v j o
      (λ k i p x y d. others k i p x (stands-every m k i (rw (count-update m k) at y)) d) q (rw (← b) e)
      ∙ ap (λ i. all i q) (sym long))
      (rw (long, b) (numbered-changed (count_at m) (weave_cell m) (count_at m') (weave_cell m') ones_pair n count_kept v j o h (few-count m v j s) ∙ here))

-- ---- pages: which stand, and their numbers

serial-before : (ks : List Ticket) (t i : ℕ) → serial_of ks (suc t) i ≡ before pages_of ks t + i
unfolding serial_of
serial-before ks t i = ap (λ (n : ℕ). n + i) (pages-before ks t)

serial-lt : (ks : List Ticket) (t i : ℕ) → 0 < t → t ≤ length ks → i < pages_of (nth no_ticket ks t) → serial_of ks t i < pages_upto ks (length ks)
serial-lt ks zero i o h l = absurd (omega arith)
serial-lt ks (suc t) i o h l =
    omega (arith, serial-before ks t i, pages-before ks (length ks), before-lt pages_of ks t (length ks) no_ticket h (omega arith))

module _ (m : Model) (t i : ℕ) where
  -- Every page of a ticket stands.
  pub page-every : 0 < t → t ≤ length m.tickets → i < pages_of (ticket_in m t) → slot_stands m t i ≡ true
  unfolding page_stands
  page-every o h l = lt-ltb (serial_of m.tickets t i) (pages_upto m.tickets (length m.tickets)) (serial-lt m.tickets t i o h l)

  -- Of a ticket that has no update yet every page stands.
  pub page-open : 0 < t → t ≤ length m.tickets → i < pages_of (ticket_in m t) → ticket_update m t ≡ 0 → slot_stands m t i ≡ true
  page-open o h l e = page-every o h l

  -- And of one whose update its line has not published.
  pub page-unpublished : 0 < t → t ≤ length m.tickets → i < pages_of (ticket_in m t) → 0 < ticket_update m t
      → (line_at m (update_at m (ticket_update m t)).line).published < (update_at m (ticket_update m t)).number → slot_stands m t i ≡ true
  page-unpublished o h l e late = page-every o h l

  -- Where all pages of a ticket before it stand, a page's number is so many after the first's.
  pub number-from : ((j : ℕ) → j < i → slot_stands m t j ≡ true) → slot_number m t i ≡ slot_number m t 0 + i
  unfolding number_of_page serial_of
  number-from h = let u = pages_upto m.tickets (pred t) in let e : u + i ≡ u + 0 + i = omega arith in e

-- Of a version of a line every page stands.
pub page-live : (L : Limits) (m : Model) → Sound L m → (l : ℕ) → l < length m.lines → (v p : ℕ) → v ≤ length (line_at m l).shown → p < (version_at (history m l) v).size
    → page_stands m (leaf_serial (history m l) (leaf_version (updates (history m l)) v p) p) ≡ true
page-live L m S l there v p h r =
    let w = leaf_version (updates (history m l)) v p in
    let H = line-history L m S l there in
    let n : v ≤ length (history m l).versions = omega (arith, versions-length m l) in
    let b = leaf-bounds L (history m l) H v p n r in
    let s = H.versions w b.above (omega arith) in
    page-every m (version_at (history m l) w).ticket (p - (version_at (history m l) w).f) s.from s.upto b.slot

pub page-room : {A : Type 0} (L : Limits) (m : Model) → SoundGiven A L m → (s : ℕ) → page_stands m s ≡ true → number_of_page m s < L.pages
unfolding page_stands number_of_page pages_used
page-room L m S s e = omega (arith, ltb-true s (pages_upto m.tickets (length m.tickets)) e, S.page_room)

-- ---- the page area

length-slot : (size : ℕ) (o : Option Page) → ((x : Page) → o ≡ Some x → length x ≡ size) → length (or_blank size o) ≡ size
length-slot size None h = length-replicate size 0
length-slot size (Some x) h = h x refl

pub pages-list : (L : Limits) (m : Model) → pages_image L m ≡ joined (page_list L m)
unfolding pages_image
pages-list L m = refl

pub list_length : (L : Limits) (m : Model) → length (page_list L m) ≡ L.pages
unfolding page_list
list_length L m = length-tab L.pages (page_cell L.size m.tickets)

module _ {A : Type 0} (L : Limits) (m : Model) (S : SoundGiven A L m) where
  cells-length : (q : ℕ) → length (page_cell L.size m.tickets q) ≡ L.size
  cells-length q = elim (locate pages_of m.tickets no_ticket q) [
    | inside t i l k e ↦
        rw (e, cell_at pages_of (slot_cell L.size) (blank L.size) m.tickets t i no_ticket l k)
        (length-slot L.size (get_or (get_or m.tickets t no_ticket).slots i None) ((S.tickets (suc t) (omega arith) l).bytes i))
    | outside k ↦ rw (cell-past pages_of (slot_cell L.size) (blank L.size) m.tickets q k) (length-replicate L.size 0)
  ]

  -- Every page is S long.
  pub list-blocks : Blocks L.size (page_list L m)
  unfolding page_list
  list-blocks = blocks-tab L.size L.pages (page_cell L.size m.tickets) (λ q l. cells-length q)

  pub length-pages : length (pages_image L m) ≡ L.size * L.pages
  length-pages = rw (pages-list L m) (length-joined L.size (page_list L m) list-blocks ∙ ap (λ (n : ℕ). L.size * n) (list_length L m))

  -- A page that stands is read by its number.
  pub page-read : (t i : ℕ) → 0 < t → t ≤ length m.tickets → i < pages_of (ticket_in m t) → slot_stands m t i ≡ true
      → get_or (page_list L m) (slot_number m t i) [] ≡ slot_cell L.size (ticket_in m t) i
  unfolding page_list number_of_page
  page-read zero i o h l s = absurd (omega arith)
  page-read (suc t) i o h l s =
      get_or-tab L.pages (page_cell L.size m.tickets) (serial_of m.tickets (suc t) i) [] (page-room L m S (serial_of m.tickets (suc t) i) s)
      ∙ ap (page_cell L.size m.tickets) (serial-before m.tickets t i)
      ∙ cell_at pages_of (slot_cell L.size) (blank L.size) m.tickets t i no_ticket h l

-- ---- two models, of which the second grew from the first

module _ (m m' : Model) (g : Grown m m') where
  pages-upto-kept : (t : ℕ) → t ≤ length m.tickets → pages_upto m'.tickets t ≡ pages_upto m.tickets t
  unfolding pages_upto
  pages-upto-kept zero h = refl
  pages-upto-kept (suc t) h =
      let a = before_more pages_of m.tickets t no_ticket h in
      let b = before_more pages_of m'.tickets t no_ticket (omega (arith, g.tickets)) in
      omega (
        arith,
        pages-upto-kept t (omega arith),
        pages-before m.tickets t,
        pages-before m.tickets (suc t),
        pages-before m'.tickets t,
        pages-before m'.tickets (suc t),
        g.pages (suc t) h,
      )

  pub serial-kept : (t i : ℕ) → t ≤ length m.tickets → serial_of m'.tickets t i ≡ serial_of m.tickets t i
  unfolding serial_of
  serial-kept t i h = ap (λ (n : ℕ). n + i) (pages-upto-kept (pred t) (omega arith))

  pub number-kept : (t i : ℕ) → 0 < t → t ≤ length m.tickets → i < pages_of (ticket_in m t) → slot_number m' t i ≡ slot_number m t i
  unfolding number_of_page
  number-kept t i o h l = serial-kept t i h

  pub pages-used-kept : length m'.tickets ≡ length m.tickets → pages_used m' ≡ pages_used m
  unfolding pages_used
  pages-used-kept e = rw e (pages-upto-kept (length m.tickets) (omega arith))

  module _ (more : length m'.tickets ≡ suc (length m.tickets)) where
    -- All pages of a new ticket stand.
    pub pages-used-more : ((i : ℕ) → i < pages_of (ticket_in m' (suc (length m.tickets))) → slot_stands m' (suc (length m.tickets)) i ≡ true)
        → pages_used m' ≡ pages_used m + pages_of (ticket_in m' (suc (length m.tickets)))
    unfolding pages_used
    pages-used-more s =
        let n = length m.tickets in
        let b = before_more pages_of m'.tickets n no_ticket (omega arith) in
        rw more (omega (arith, pages-upto-kept n (omega arith), pages-before m'.tickets n, pages-before m'.tickets (suc n)))

    pub number-new : slot_number m' (suc (length m.tickets)) 0 ≡ pages_used m
    unfolding number_of_page serial_of pages_used
    number-new = add-zero (pages_upto m'.tickets (length m.tickets)) ∙ pages-upto-kept (length m.tickets) (omega arith)

  -- The pages that stood hold the same bytes.
  abbrev pub PagesSame : ℕ → Type 0
  PagesSame size = (t i : ℕ) → 0 < t → t ≤ length m.tickets → i < pages_of (ticket_in m t) → slot_stands m t i ≡ true
      → slot_cell size (ticket_in m t) i ≡ slot_cell size (ticket_in m' t) i

  before-kept : (t : ℕ) → t ≤ length m.tickets → before pages_of m.tickets t ≡ before pages_of m'.tickets t
  before-kept t h = sym (pages-before m.tickets t) ∙ sym (pages-upto-kept t h) ∙ pages-before m'.tickets t

  pages-kept : (size : ℕ) → PagesSame size
      → ((t i : ℕ) → length m.tickets < t → t ≤ length m'.tickets → slot_cell size (ticket_in m' t) i ≡ blank size)
      → (q : ℕ) → page_cell size m.tickets q ≡ page_cell size m'.tickets q
  pages-kept size c d q = elim (locate pages_of m.tickets no_ticket q) [
    | inside t i l k e ↦
        let k' = rw (← g.pages (suc t) l) at k in
        rw e
        (cell_at pages_of (slot_cell size) (blank size) m.tickets t i no_ticket l k
        ∙ c (suc t) i (omega arith) l k (page-every m (suc t) i (omega arith) l k)
        ∙ sym (rw (before-kept t (omega arith)) (cell_at pages_of (slot_cell size) (blank size) m'.tickets t i no_ticket (omega (arith, g.tickets)) k')))
    | outside k ↦ cell-past pages_of (slot_cell size) (blank size) m.tickets q k ∙ sym (past k)
  ]
    where
      past : before pages_of m.tickets (length m.tickets) ≤ q → page_cell size m'.tickets q ≡ blank size
      past k = elim (locate pages_of m'.tickets no_ticket q) [
        | inside t i l s e ↦
            rw (e, cell_at pages_of (slot_cell size) (blank size) m'.tickets t i no_ticket l s)
            (elim (lt-or-le t (length m.tickets)) [
              | inl z ↦
                  absurd (omega (
                    arith,
                    before-kept (length m.tickets) (omega arith),
                    before-lt pages_of m'.tickets t (length m.tickets) no_ticket z g.tickets,
                  ))
              | inr z ↦ d (suc t) i (omega arith) l
            ])
        | outside s ↦ cell-past pages_of (slot_cell size) (blank size) m'.tickets q s
      ]

  pub pages-same : (L : Limits) → length m'.tickets ≡ length m.tickets → PagesSame L.size → pages_image L m ≡ pages_image L m'
  unfolding pages_image page_list
  pages-same L e c =
      ap joined (tab-same L.pages (page_cell L.size m.tickets) (page_cell L.size m'.tickets) (λ q h. pages-kept L.size c (λ t i a b. absurd (omega arith)) q))

  -- A new ticket, none of whose pages is put.
  pub pages-grow : (L : Limits) → length m'.tickets ≡ suc (length m.tickets) → PagesSame L.size
      → ((i : ℕ) → slot_cell L.size (ticket_in m' (suc (length m.tickets))) i ≡ blank L.size) → pages_image L m ≡ pages_image L m'
  unfolding pages_image page_list
  pages-grow L e c d =
      ap joined
      (tab-same L.pages (page_cell L.size m.tickets) (page_cell L.size m'.tickets) (λ q h.
      pages-kept L.size c (λ t i a b. let z : t ≡ suc (length m.tickets) = omega arith in rw z (d i)) q))

  -- One page put by its number.
  pub page-put : {A : Type 0} (L : Limits) → SoundGiven A L m → length m'.tickets ≡ length m.tickets
      → (t i : ℕ) (x : Page) → 0 < t → t ≤ length m.tickets → i < pages_of (ticket_in m t) → slot_stands m t i ≡ true
      → ((u j : ℕ) → 0 < u → u ≤ length m.tickets → j < pages_of (ticket_in m u) → slot_stands m u j ≡ true → (u ≡ t → j ≡ i → ⊥)
      → slot_cell L.size (ticket_in m u) j ≡ slot_cell L.size (ticket_in m' u) j)
      → slot_cell L.size (ticket_in m' t) i ≡ x → set (page_list L m) (slot_number m t i) x ≡ page_list L m'
  unfolding page_list number_of_page
  page-put L S long zero i x o h l s others here = absurd (omega arith)
  page-put L S long (suc t) i x o h l s others here =
      let size = L.size in
      let b = serial-before m.tickets t i in
      let l' = rw (← g.pages (suc t) h) at l in
      tab-set L.pages (page_cell size m.tickets) (page_cell size m'.tickets) (serial_of m.tickets (suc t) i) x (page-room L m S (serial_of m.tickets (suc t) i) s)
      (λ q z e.
      cell-but pages_of (slot_cell size) pages_of (slot_cell size) (blank size) m.tickets m'.tickets no_ticket no_ticket (sym long)
      (λ u k. sym (g.pages (suc u) k)) t i
      (λ u j k y n. others (suc u) j (omega arith) k y (page-every m (suc u) j (omega arith) k y) (λ p r. n (suc_inj p) r)) q (rw (← b) e))
      (ap (page_cell size m'.tickets) (b ∙ ap (λ (n : ℕ). n + i) (before-kept t (omega arith)))
      ∙ cell_at pages_of (slot_cell size) (blank size) m'.tickets t i no_ticket (omega arith) l'
      ∙ here)

-- ---- the model that has nothing

pub nodes-used-none : nodes_used no_model ≡ 0
unfolding nodes_used nodes_upto
nodes-used-none = refl

pub pages-used-none : pages_used no_model ≡ 0
unfolding pages_used pages_upto
pages-used-none = refl

pub nodes-none : (L : Limits) → nodes_image L no_model ≡ flat (tab L.nodes (λ (q : ℕ). ones_pair))
unfolding nodes_image cell_in tab
nodes-none L = refl

pub pages-none : (L : Limits) → pages_image L no_model ≡ joined (tab L.pages (λ (q : ℕ). blank L.size))
unfolding pages_image page_list cell_in
pages-none L = refl
