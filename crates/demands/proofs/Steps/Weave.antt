-- WEAVE on a model's image: the number and the node are the model's, and the areas after are those of the model after.
-- Assumes nothing.
use mathlib.Core.Path.{◌≡◌, refl, sym, ap, ◌∙◌}
use mathlib.Core.Logic.{inl, inr}
use mathlib.Core.Bool.{Bool, true, false}
use mathlib.Core.List.{List}
use Prim.Native.Nat.{ℕ, zero, suc, pred, ◌+◌, ◌-◌, ◌*◌, ◌^◌, ◌≤◌, ◌<◌}
use native.Mathlib.Nat.{mod-eq_of_lt}
use native.Mathlib.Omega.{arith}
use borrow.Author.Tests.{lt-ltb, le-ltb, le-leb, lt-leb, ne_eqb}
use lib.ListN.{length}
use Rattle.tree.specs.Tree.{Update, Node, node, count_of, meets, update, newest, root_height}
use Rattle.tree.specs.Place.{first, halvings, kth}
use Rattle.tree.specs.Contract.{height_in}
use Rattle.tree.specs.Walk.{has_node}
use Rattle.tree.specs.NodeArea.{with_node}
use Rattle.tree.proofs.Meets.{lt-or-le, meets-before, meets-after}
use Rattle.tree.proofs.Newest.{newest-le, newest-within}
use Rattle.tree.proofs.Root.{root-low}
use Rattle.tree.proofs.Walk.{node-has}
use Rattle.tree.proofs.Weaving.{Inside, grid-left, grid-right, weaving-kth, kth-node}
use Rattle.tree.proofs.Whole.{numbered-kth}
use Rattle.lines.specs.Lines.{pick, line_of, version_of}
use Rattle.register.specs.Register.{part_of, update_of, with_record}
use Rattle.register.specs.declared.Record.{Record}
use Rattle.register.specs.declared.Part.{Part}
use Rattle.table.specs.Table.{◌≤?◌, ◌<?◌, ◌or◌, always, unless, weave_rows}
use Rattle.table.proofs.Table.{Fails, number-cases, or_else-0, or_else-suc}
use Rattle.versions.specs.declared.Store.{Store}
use Rattle.versions.specs.Store.{lengths_of, record_of}
use Rattle.weave.specs.Weave.{next_node, place_of, next_place, leaf_past, weave_refusal, woven_update, woven_record, woven_part, older_number, meets_left, meets_right, lost_half, lost_child, lost_by, weave_number, kept, left_number, right_number, first_page, span_of, with_woven, node_of}
use Rattle.model.specs.Calls.{WEAVE, node_is, says}
use Rattle.model.specs.History.{History, to_update, updates}
use Rattle.model.specs.Model.{Limits, Model, line_at, update_at, history, ticket_update, numbered, number_in}
use Rattle.model.specs.OnModel.{ticket_in, left_of, right_of, first_page as page_of, span_of as span_in, weave_number as model_number, node_answer, woven, on_model}
use Rattle.model.specs.Layout.{node_place, serial_of, slot_number}
use Rattle.model.proofs.Area.Image.{pages_image, node_of as node_in, nodes_image}
use Rattle.model.proofs.Model.Sound.{Sound, UpdateSound}
use Rattle.model.proofs.Model.Facts.{versions-most}
use Rattle.model.proofs.Area.LayoutLaws.{stands-unpublished, place-from, place-room, page-room}
use Rattle.model.proofs.Area.Leaves.{own-inside, next-late, next-stands, next-pages, next-slot, next-number}
use Rattle.model.proofs.Model.Updated.{update-le, update-ticket}
use Rattle.model.proofs.Line.Owner.{own-version, own-update}
use Rattle.model.proofs.Line.Numbers.{numbered_is, number-below}
use Rattle.model.proofs.Model.Passed.{WeavePassed, weave-passed}
use Rattle.demands.specs.Answers.{woven_answer}
use Rattle.demands.specs.Run.{on_store}
use Rattle.demands.proofs.Image.{record_image, register_image, store_image, windows_image, areas_image, image}
use Rattle.demands.proofs.Records.{record-of, ticket-room, update-room, number-of, own-upto, part-image, update-image, name-image, woven-image, height-image, past-image, count-image, place-image}
use Rattle.demands.proofs.Readings.{answers-same, woven-reads}
use Rattle.demands.proofs.Steps.Numbers.{image-number, WeaveReads, weave-alike}
use Rattle.demands.proofs.Steps.States.{state_of, state-same}
use Rattle.demands.proofs.Steps.Children.{older-newest}
use Rattle.demands.proofs.Steps.Woven.{woven-store, woven-pages, woven-nodes, woven-register}
use Rattle.std.proofs.Common.{Ok}

-- ---- the node, over any records

next-as : (q : Part) (u : Update) (w : ℕ) → Inside u → root_height u.size ≤ 12 → w < count_of u
    → update_of q ≡ u → height_in q.span ≡ root_height u.size → q.past ≡ halvings u.f → q.woven ≡ w → next_node q ≡ kth u.f u.last 0 (root_height u.size) w
unfolding next_node
next-as q u w inside low left e h p f = rw (e, h, p, f) (numbered-kth u inside w low left)

first-same : (x : Node) → first_page x ≡ page_of x
first-same (node a h) = refl

span_same : (x : Node) → span_of x ≡ span_in x
span_same (node a h) = refl

-- A leaf's page number, by the slot, follows the ticket's first, and lies within the pages.
abbrev LeafIn : Update → ℕ → (ℕ → ℕ) → ℕ → Node → Type 0
LeafIn u number page pages (node p zero) = (page (p - u.f) ≡ number + (p - u.f)) × (number + (p - u.f) < pages)
LeafIn u number page pages (node p (suc h)) = Unit

-- A node is one of an update's, named by its first page.
abbrev NodeIn : Update → Node → Type 0
NodeIn u (node a h) = (first a h ≡ a) × (has_node u a h ≡ true)

-- A ticket's record r and its update's part q, as version v of a history has them.
record Reads (s : Store) (nodes : List ℕ) (rs : List Record) (r : Record) (q : Part) (h : History) (v number : ℕ) : Type 0 where
  begins : r.number ≡ number
  its : update_of q ≡ update (updates h) v
  called : q.name ≡ number_in h v
  met : (a k : ℕ) → (update (updates h) v).f < a + 2 ^ k → a ≤ (update (updates h) v).last → newest (updates h) v a (2 ^ k) ≡ v
  older : (a k : ℕ) → first a k ≡ a → meets (update (updates h) v).f (update (updates h) v).last a (2 ^ k) ≡ false
      → older_number s nodes rs q.name a k ≡ number_in h (newest (updates h) v a (2 ^ k))
  small : (a k : ℕ) → number_in h (newest (updates h) v a (2 ^ k)) < 1048576

module _ {s : Store} {nodes : List ℕ} {rs : List Record} {r : Record} {q : Part} {h : History} {v number : ℕ} (e : Reads s nodes rs r q h v number) (page : ℕ → ℕ) (pages : ℕ) (few : pages ≤ 65535) where
  abbrev own : Update
  own = update (updates h) v

  -- The half of a node from page a on: the version's own where its update meets it, and else what was looked for, which is not lost.
  record Half (a k : ℕ) (b : Bool) : Type 0 where
    named : pick b q.name (older_number s nodes rs q.name a k) ≡ number_in h (newest (updates h) v a (2 ^ k))
    found : lost_half b (older_number s nodes rs q.name a k) ≡ false

  half-met : (a k : ℕ) → own.f < a + 2 ^ k → a ≤ own.last → Half a k true
  half-met a k x y = record { named = e.called ∙ ap (number_in h) (sym (e.met a k x y)); found = refl }

  half-missed : (a k : ℕ) → first a k ≡ a → meets own.f own.last a (2 ^ k) ≡ false → Half a k false
  half-missed a k g x =
      let o = e.older a k g x in
      record { named = o; found = ne_eqb (older_number s nodes rs q.name a k) (2 ^ 64 - 1) (λ z. omega (arith, o, e.small a k)) }

  module _ (p k : ℕ) (i : NodeIn own (node p (suc k))) where
    left-half : Half p k (meets_left q (p + 2 ^ k))
    left-half =
        let n = node-has own p (suc k) i.1 in
        elim (lt-or-le own.f (p + 2 ^ k)) [
          | inl l ↦ rw (e.its, lt-ltb own.f (p + 2 ^ k) l) (half-met p k l (omega (arith, n, i.0)))
          | inr l ↦ rw (e.its, le-ltb own.f (p + 2 ^ k) l) (half-missed p k (grid-left p k i.0) (meets-before own.f own.last p (2 ^ k) l))
        ]

    right-half : Half (p + 2 ^ k) k (meets_right q (p + 2 ^ k))
    right-half =
        let n = node-has own p (suc k) i.1 in
        elim (lt-or-le own.last (p + 2 ^ k)) [
          | inl l ↦ rw (e.its, lt-leb (p + 2 ^ k) own.last l) (half-missed (p + 2 ^ k) k (grid-right p k i.0) (meets-after own.f own.last (p + 2 ^ k) (2 ^ k) l))
          | inr l ↦ rw (e.its, le-leb (p + 2 ^ k) own.last l) (half-met (p + 2 ^ k) k (omega (arith, n, i.0)) l)
        ]

  -- A child's number as the node area keeps it.
  child-kept : (a k : ℕ) (b : Bool) → Half a k b → kept (pick b q.name (older_number s nodes rs q.name a k)) ≡ number_in h (newest (updates h) v a (2 ^ k))
  child-kept a k b x = ap kept x.named ∙ mod-eq_of_lt (omega (arith, e.small a k))

  left-same : (x : Node) → LeafIn own number page pages x → NodeIn own x → left_number s nodes rs r q x ≡ left_of h v page x
  left-same (node p zero) l i = rw (e.begins, e.its) (mod-eq_of_lt (omega (arith, l.1))) ∙ sym l.0
  left-same (node p (suc k)) l i = child-kept p k (meets_left q (p + 2 ^ k)) (left-half p k i)

  right-same : (x : Node) → NodeIn own x → right_number s nodes rs q x ≡ right_of h v x
  right-same (node p zero) i = refl
  right-same (node p (suc k)) i = child-kept (p + 2 ^ k) k (meets_right q (p + 2 ^ k)) (right-half p k i)

  none-lost : (x : Node) → NodeIn own x → lost_child s nodes rs q x ≡ false
  none-lost (node p zero) i = refl
  none-lost (node p (suc k)) i = rw ((left-half p k i).found, (right-half p k i).found)

  leaf-fails : s.pages ≡ pages → (x : Node) → LeafIn (update (updates h) v) number page pages x → Fails (leaf_past s r q x)
  leaf-fails z (node p zero) l = rw (z, e.begins, e.its) l.1
  leaf-fails z (node p (suc k)) l = omega arith

-- ---- the records of the image

module _ (L : Limits) (m : Model) (S : Sound L m) (t : ℕ) (o : 0 < t) (h : t ≤ length m.tickets) where
  update-is : woven_update (areas_image L m) t ≡ ticket_update m t
  update-is =
      let n : suc (pred t) ≡ t = omega arith in
      ap (λ (r : Record). r.update) (record-of L m t o (ticket-room L m S t h)) ∙ ap (ticket_update m) n

  module _ (got : 0 < ticket_update m t) where
    its-part : woven_part (areas_image L m) t ≡ part_of (record_image m (pred (ticket_update m t)))
    its-part = ap (λ (k : ℕ). part_of (record_of (areas_image L m) k)) update-is ∙ part-image L m S (ticket_update m t) got (update-le m t)

    its-woven : (woven_part (areas_image L m) t).woven ≡ (ticket_in m t).woven
    its-woven =
        ap (λ (q : Part). q.woven) its-part
        ∙ woven-image L m S (ticket_update m t) got (update-le m t)
        ∙ ap (λ (u : ℕ). (ticket_in m u).woven) (update-ticket m t got)

    its-update : update_of (woven_part (areas_image L m) t) ≡ to_update m.tickets (update_at m (ticket_update m t))
    its-update = ap update_of its-part ∙ update-image L m S (ticket_update m t) got (update-le m t)

    its-name : (woven_part (areas_image L m) t).name ≡ numbered (update_at m (ticket_update m t)).line (update_at m (ticket_update m t)).number
    its-name = ap (λ (q : Part). q.name) its-part ∙ name-image L m S (ticket_update m t) got (update-le m t)

    its-height : height_in (woven_part (areas_image L m) t).span ≡ root_height (update_at m (ticket_update m t)).size
    its-height = ap (λ (q : Part). height_in q.span) its-part ∙ height-image L m S (ticket_update m t) got (update-le m t)

    its-past : (woven_part (areas_image L m) t).past ≡ halvings (update_at m (ticket_update m t)).f
    its-past = ap (λ (q : Part). q.past) its-part ∙ past-image L m S (ticket_update m t) got (update-le m t)

    its-count : (woven_part (areas_image L m) t).count ≡ count_of (to_update m.tickets (update_at m (ticket_update m t)))
    its-count = ap (λ (q : Part). q.count) its-part ∙ count-image L m S (ticket_update m t) got (update-le m t)

    its-place : place_of (woven_part (areas_image L m) t) ≡ node_place m (ticket_update m t) 0
    its-place = ap place_of its-part ∙ place-image L m S (ticket_update m t) got (update-le m t)

  weave-reads :
      let q = woven_part (areas_image L m) t in
      WeaveReads t L.updates (woven_update (areas_image L m) t) (ticket_update m t) q.woven (ticket_in m t).woven q.count
      (count_of (to_update m.tickets (update_at m (ticket_update m t))))
  weave-reads = record {
    there = ticket-room L m S t h;
    version = update-is;
    kept = λ z. update-room L m S (ticket_update m t) (update-le m t);
    woven = its-woven;
    count = its-count;
  }

-- ---- where the rows pass

module _ (L : Limits) (m : Model) (S : Sound L m) (t : ℕ) (p : WeavePassed m t) where
  -- The ticket's update, the line on which it got its version, and that.
  abbrev its : ℕ
  its = ticket_update m t

  abbrev line : ℕ
  line = (update_at m its).line

  abbrev version : ℕ
  version = (update_at m its).number

  abbrev part : Part
  part = woven_part (areas_image L m) t

  sound : UpdateSound m its
  sound = S.updated its p.assigned (update-le m t)

  upto : version ≤ length (line_at m line).shown
  upto = own-upto L m S its p.assigned (update-le m t)

  -- The update's name says its line and its version.
  name-is : part.name ≡ numbered line version
  name-is = its-name L m S t p.from p.upto p.assigned

  number_is : part.name ≡ number_in (history m line) version
  number_is = name-is ∙ sym (rw (own-version L m S its p.assigned (update-le m t)))

  name-sum : part.name ≡ line * 65536 + version
  name-sum = name-is ∙ numbered_is line version (omega (arith, sound.own))

  older-is : (a k : ℕ) → first a k ≡ a → meets (update (updates (history m line)) version).f (update (updates (history m line)) version).last a (2 ^ k) ≡ false
      → older_number (store_image L m) (nodes_image L m) (register_image L m) part.name a k ≡ number_in (history m line) (newest (updates (history m line)) version a (2 ^ k))
  older-is a k g x =
      let most = versions-most L m S line sound.line in
      let l : line_of part.name ≡ line = omega (arith, name-sum, upto) in
      let v : version_of part.name ≡ version = omega (arith, name-sum, upto) in
      older-newest L m S line version sound.line (next-late L m S t p) upto a k g x part.name l v

  met-is : (a k : ℕ) → (update (updates (history m line)) version).f < a + 2 ^ k → a ≤ (update (updates (history m line)) version).last
      → newest (updates (history m line)) version a (2 ^ k) ≡ version
  met-is a k x y =
      let n : suc (pred version) ≡ version = omega (arith, sound.own) in
      rw n at (newest-within (updates (history m line)) (pred version) a (2 ^ k) (rw n x) (rw n y))

  reads : Reads (store_image L m) (nodes_image L m) (register_image L m) (record_of (areas_image L m) t) part (history m line) version (slot_number m t 0)
  reads = record {
    begins = number-of L m S t p.from p.upto;
    its = its-update L m S t p.from p.upto p.assigned ∙ sym (own-update L m S its p.assigned (update-le m t));
    called = number_is;
    met = met-is;
    older = older-is;
    small = λ a k.
        number-below L m S line (newest (updates (history m line)) version a (2 ^ k)) sound.line (omega (arith, newest-le (updates (history m line)) version a (2 ^ k), upto));
  }

  woven-is : part.woven ≡ (ticket_in m t).woven
  woven-is = its-woven L m S t p.from p.upto p.assigned

  -- The node that stands next in weaving order.
  abbrev next : Node
  next = node_in m its (ticket_in m t).woven

  inside : Inside (to_update m.tickets (update_at m its))
  inside = own-inside L m S its p.assigned (update-le m t)

  next-node : next_node part ≡ next
  next-node =
      let u = to_update m.tickets (update_at m its) in
      let k = (ticket_in m t).woven in
      next-as part u k inside (root-low u.size sound.upward) p.left (its-update L m S t p.from p.upto p.assigned)
      (its-height L m S t p.from p.upto p.assigned) (its-past L m S t p.from p.upto p.assigned) woven-is
      ∙ sym (weaving-kth u inside k p.left)

  -- It is one of the version's.
  next-in : (x : Node) → next ≡ x → NodeIn (update (updates (history m line)) version) x
  next-in (node a k) e =
      let u = to_update m.tickets (update_at m its) in
      let i = (ticket_in m t).woven in
      rw (own-update L m S its p.assigned (update-le m t)) (kth-node u inside i a k p.left (sym (weaving-kth u inside i p.left) ∙ e))

  leaf-low : (x : Node) → next ≡ x → LeafIn (update (updates (history m line)) version) (slot_number m t 0) (slot_number m t) L.pages x
  leaf-low (node a zero) e =
      let i = a - (update_at m its).f in
      let room = page-room L m S (serial_of m.tickets t i) (next-pages L m S t p i (next-slot L m S t p a e)) in
      let from = next-number L m S t p a e in
      rw (own-update L m S its p.assigned (update-le m t)) (from, omega arith)
  leaf-low (node a (suc h)) e = tt

  next-place : next_place part ≡ node_place m its (ticket_in m t).woven
  next-place = rw (its-place L m S t p.from p.upto p.assigned, woven-is) (sym (place-from m its (ticket_in m t).woven (λ j h. stands-unpublished m its j (next-late L m S t p) (omega (arith, p.left)))))

  leaf-not : Fails (leaf_past (store_image L m) (record_of (areas_image L m) t) part (next_node part))
  leaf-not = rw next-node (leaf-fails reads (slot_number m t) L.pages S.allowed.pages refl next (leaf-low next refl))

  -- The node's numbers.
  left-node : (node_of (store_image L m) (areas_image L m) t).left ≡ left_of (history m line) version (slot_number m t) next
  left-node = rw next-node (left-same reads (slot_number m t) L.pages S.allowed.pages next (leaf-low next refl) (next-in next refl))

  right-node : (node_of (store_image L m) (areas_image L m) t).right ≡ right_of (history m line) version next
  right-node = rw next-node (right-same reads (slot_number m t) L.pages S.allowed.pages next (next-in next refl))

  rest-node : (node_of (store_image L m) (areas_image L m) t).rest ≡ count_of (to_update m.tickets (update_at m its)) - suc (ticket_in m t).woven
  rest-node = rw (its-count L m S t p.from p.upto p.assigned, woven-is)

  not-lost : lost_child (store_image L m) (nodes_image L m) (register_image L m) part (next_node part) ≡ false
  not-lost = rw next-node (none-lost reads (slot_number m t) L.pages S.allowed.pages next (next-in next refl))

  node-says : woven_answer (Ok (node_of (store_image L m) (areas_image L m) t)) ≡ node_answer L m t
  node-says = λ i. node_is (number_is i) (first-node i) (span-node i) (left-node i) (right-node i) (rest-node i)
    where
      first-node : first_page (next_node part) ≡ page_of next
      first-node = rw next-node (first-same next)

      span-node : span_of (next_node part) ≡ span_in next
      span-node = rw next-node (span_same next)

  nodes-after : with_node (nodes_image L m) (next_place part) (node_of (store_image L m) (areas_image L m) t).left (node_of (store_image L m) (areas_image L m) t).right
      ≡ nodes_image L (woven L m t)
  nodes-after = rw (next-place, left-node, right-node) (woven-nodes L m t S p (next-stands L m S t p) _ _ (rw (update-ticket m t p.assigned)))

  register-after : with_record (register_image L m) (pred (woven_update (areas_image L m) t)) (with_woven (woven_record (areas_image L m) t)) ≡ register_image L (woven L m t)
  register-after =
      rw (update-is L m S t p.from p.upto, record-of L m its p.assigned (update-room L m S its (update-le m t))) (woven-register L m t S p)

-- ---- the call

unless-state : (L : Limits) (m m' : Model) (k : ℕ) (nodes : List ℕ) (register : List Record)
    → (k ≡ 0 → state_of (store_image L m) (windows_image m) (pages_image L m) nodes register ≡ image L m')
    → state_of (store_image L m) (windows_image m) (pages_image L m) (unless k (nodes_image L m) nodes) (unless k (register_image L m) register) ≡ image L (unless k m m')
unfolding unless
unless-state L m m' zero nodes register e = e refl
unless-state L m m' (suc k) nodes register e = refl

module _ (L : Limits) (m : Model) (S : Sound L m) (t : ℕ) where
  -- The table's number, before the search.
  table-number : weave_refusal (store_image L m) (lengths_of (areas_image L m)) (record_of (areas_image L m) t) (woven_part (areas_image L m) t) t ≡ model_number L m t
  unfolding weave_refusal
  table-number =
      let a = areas_image L m in
      let s = store_image L m in
      let k = ticket_update m t in
      let r = record_of a t in
      let q = woven_part a t in
      let c = count_of (to_update m.tickets (update_at m k)) in
      image-number L m S
      (weave_rows (t ≤? L.updates) (woven_update a t ≤? L.updates) t (length m.tickets) (woven_update a t) q.woven q.count)
      (weave_rows always always t (length m.tickets) k (ticket_in m t).woven c)
      (L.updates <? t or L.updates <? woven_update a t or L.nodes ≤? next_place q or leaf_past s r q (next_node q))
      (weave-alike t (length m.tickets) L.updates (woven_update a t) k q.woven (ticket_in m t).woven q.count c (weave-reads L m S t))
      (λ z.
      let p = weave-passed L m t z in
      let e = update-is L m S t p.from p.upto in
      let room = place-room L m S k (ticket_in m t).woven p.assigned (update-le m t) (next-stands L m S t p) in
      let low : next_place q < L.nodes = omega (arith, next-place L m S t p) in
      (ticket-room L m S t p.upto, (omega (arith, update-room L m S k (update-le m t)), (low, leaf-not L m S t p))))

  -- Where the table passes nothing that is looked for is lost.
  pub weave-number : weave_number (store_image L m) (areas_image L m) t ≡ model_number L m t
  weave-number = elim (number-cases (model_number L m t)) [
    | inl z ↦ or_else-0 _ _ (table-number ∙ z) ∙ ap lost_by (not-lost L m S t (weave-passed L m t z)) ∙ sym z
    | inr o ↦ or_else-suc _ _ (λ z. omega (arith, table-number)) ∙ table-number
  ]

  state-after : WeavePassed m t
      → state_of (store_image L m) (windows_image m) (pages_image L m)
      (with_node (nodes_image L m) (next_place (woven_part (areas_image L m) t)) (node_of (store_image L m) (areas_image L m) t).left (node_of (store_image L m) (areas_image L m) t).right)
      (with_record (register_image L m) (pred (woven_update (areas_image L m) t)) (with_woven (woven_record (areas_image L m) t)))
      ≡ image L (woven L m t)
  state-after p = state-same (woven-store L m t S p) (woven-pages L m t S p) (nodes-after L m S t p) (register-after L m S t p)

  pub weave-step : on_store (image L m) (WEAVE t) ≡ (image L (on_model L m (WEAVE t)).0, (on_model L m (WEAVE t)).1)
  unfolding on_store on_model
  weave-step =
      let k = model_number L m t in
      let states = unless-state L m (woven L m t) k _ _ (λ z. state-after (weave-passed L m t z)) in
      let x = node_of (store_image L m) (areas_image L m) t in
      let said = woven-reads k x ∙ answers-same k (woven_answer (Ok x)) (node_answer L m t) (λ z. node-says L m S t (weave-passed L m t z)) in
      rw weave-number (λ i. (states i, says (said i)))
