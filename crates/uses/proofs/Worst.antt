-- The worst count sizes a store: by the tree's theorem of it, and the table on the model. Assumes nothing.
use mathlib.Core.Path.{◌≡◌, refl, sym, ap, ◌∙◌}
use mathlib.Core.Bool.{Bool, true, false, cond}
use mathlib.Core.Logic.{inl, inr}
use mathlib.Core.List.{List, ◌∷◌}
use Prim.Native.Nat.{ℕ, zero, suc, ◌+◌, ◌-◌, ◌*◌, ◌/◌, ◌≤◌, ◌<◌, max}
use native.Mathlib.Nat.{suc-mul, mul-le-mul_right}
use native.Mathlib.Omega.{arith}
use lib.ListN.{length}
use Rattle.tree.specs.Tree.{Update, node_count, count_of, update}
use Rattle.tree.specs.Worst.{worst, Worst}
use Rattle.tree.proofs.Meets.{lt-or-le}
use Rattle.tree.proofs.Costliest.{worst-cases}
use Rattle.table.specs.Table.{Cond, holds, Row, ◌gives◌, first_refusal, assign_rows}
use Rattle.table.proofs.Table.{none, skip, first}
use Rattle.model.specs.Calls.{Call, on, WRITE, APPEND, refused, version_is, Outcome, answers}
use Rattle.model.specs.History.{Version, pages_of, to_update, updates}
use Rattle.model.specs.Model.{Limits, Model, line_at, update_at, history, every}
use Rattle.model.specs.Layout.{nodes_upto, nodes_used}
use Rattle.model.specs.OnModel.{ticket_in, next_version, next_update, assign_number, assign_step, on_line, on_model}
use Rattle.model.specs.Run.{model_after}
use Rattle.model.proofs.Lists.Nth.{nth_past}
use Rattle.model.proofs.Model.Sound.{SoundGiven, UpdateSound}
use Rattle.model.proofs.Model.Shown.{shown_at, every-update}
use Rattle.model.proofs.Model.Passed.{AssignPassed, assign-passed}
use Rattle.model.proofs.Line.Owner.{own-update}
use Rattle.model.proofs.Calls.Kept.Assign.{assigned-length, assign-sound}
use Rattle.model.proofs.Calls.Kept.Every.{sound-after}
use Rattle.versions.specs.Store.{Areas}
use Rattle.demands.specs.Demands.{Accepted}
use Rattle.uses.specs.Sized.{Within, AllWithin, end, WriteWithin, Exactly, answer, Counts, Room, AllSized}
use Rattle.uses.proofs.Laws.{every-answer}

-- ---- ASSIGN's answer

answer-refused : (k v c j : ℕ) → answers k (version_is v c) ≡ refused j → k ≡ j
answer-refused zero v c j e = let z : ◌≡◌ {A = ℕ} 0 1 = cc in absurd (omega arith)
answer-refused (suc k) v c j e = cc

answer-version : (k v c w d : ℕ) → answers k (version_is v c) ≡ version_is w d → (k ≡ 0) × (c ≡ d)
answer-version zero v c w d e = (refl, cc)
answer-version (suc k) v c w d e = let z : ◌≡◌ {A = ℕ} 0 1 = cc in absurd (omega arith)

-- A row that gives another number than 15, before rows that give 15 and before others that give 0.
pick-15 : (b : Bool) (j x y : ℕ) → (j ≡ 15 → ⊥) → (x ≡ 15 → y ≡ 0) → cond b j x ≡ 15 → cond b j y ≡ 0
pick-15 true j x y n h e = absurd (n e)
pick-15 false j x y n h e = h e

before-15 : (c : Cond) (j : ℕ) (rows rows' : List Row) → (j ≡ 15 → ⊥) → (first_refusal rows ≡ 15 → first_refusal rows' ≡ 0)
    → first_refusal ((c gives j) ∷ rows) ≡ 15 → first_refusal ((c gives j) ∷ rows') ≡ 0
unfolding first_refusal
before-15 c j rows rows' n h e = pick-15 (holds c) j (first_refusal rows) (first_refusal rows') n h e

-- ---- one update

-- Where it is within r and n, and its pages are within the size after it, it has no more nodes than the worst count.
count_most : (r n : ℕ) → Worst r n → (m : Model) (v : Version) → Within r n m v → 0 < pages_of (ticket_in m v.ticket)
    → v.f + pages_of (ticket_in m v.ticket) ≤ v.size → count_of (to_update m.tickets v) ≤ worst r n
unfolding node_count
count_most r n w m v s o i = w.growing v.f (pages_of (ticket_in m v.ticket)) v.size o s.pages i s.size

-- Nor do k updates have more than k times what none exceeds.
nodes-most : (us : List Update) (w k : ℕ) → ((i : ℕ) → 0 < i → i ≤ k → count_of (update us i) ≤ w) → nodes_upto us k ≤ k * w
unfolding nodes_upto
nodes-most us w zero h = omega arith
nodes-most us w (suc k) h = omega (arith, suc-mul k w, h (suc k) (omega arith) (omega arith), nodes-most us w k (λ i o p. h i o (omega arith)))

module _ (L : Limits) (m : Model) (S : SoundGiven Unit L m) where
  -- An update's pages lie within the size after it: its line shows it as an accepted one.
  inside : (k : ℕ) → 0 < k → k ≤ length m.updates → (update_at m k).f + pages_of (ticket_in m (update_at m k).ticket) ≤ (update_at m k).size
  inside k o h = go (update_at m k).number s.own s.shown (own-update L m S k o h)
    where
      s : UpdateSound m k
      s = S.updated k o h

      go : (v : ℕ) → (line_at m (update_at m k).line).start < v → shown_at m (update_at m k).line v ≡ k
          → update (updates (history m (update_at m k).line)) v ≡ to_update m.tickets (update_at m k)
          → (update_at m k).f + pages_of (ticket_in m (update_at m k).ticket) ≤ (update_at m k).size
      go zero b e u = absurd (omega arith)
      go (suc v) b e u =
          let shown = (line_at m (update_at m k).line).shown in
          let there : v < length shown = elim (lt-or-le v (length shown)) [ inl q ↦ q | inr q ↦ absurd (omega (arith, nth_past 0 shown (suc v) (omega arith))) ] in
          omega (arith, rw u at ((S.lines (update_at m k).line s.line).accepted v there).grows, (S.tickets (update_at m k).ticket s.from s.upto).some-pages)

  -- So all updates have no more nodes than the worst count in each.
  used-most : (r n : ℕ) → Worst r n → AllWithin r n m → nodes_used m ≤ length m.updates * worst r n
  unfolding nodes_used
  used-most r n w all = nodes-most (updates (every m)) (worst r n) (length m.updates) one
    where
      one : (k : ℕ) → 0 < k → k ≤ length m.updates → count_of (update (updates (every m)) k) ≤ worst r n
      one k o h =
          let s = S.updated k o h in
          rw (every-update m k) (count_most r n w m (update_at m k) (all k o h) (S.tickets (update_at m k).ticket s.from s.upto).some-pages (inside k o h))

  module _ (l t f : ℕ) where
    -- The limits with other node places.
    abbrev with_nodes : ℕ → Limits
    with_nodes nodes = record { size = L.size; pages = L.pages; nodes = nodes; updates = L.updates }

    -- An update that is refused by 15 is accepted where its nodes have places.
    accepted-by : (nodes : ℕ) → nodes_used m + count_of (next_update L m l t f) ≤ nodes → assign_number L m l t f ≡ 15 → assign_number (with_nodes nodes) m l t f ≡ 0
    unfolding assign_rows
    accepted-by nodes p =
        before-15 _ 7 _ _ (omega arith)
        (before-15 _ 8 _ _ (omega arith)
        (before-15 _ 20 _ _ (omega arith)
        (before-15 _ 12 _ _ (omega arith)
        (before-15 _ 13 _ _ (omega arith)
        (before-15 _ 14 _ _ (omega arith) (λ e. sym (first (skip (inr p) none))))))))

    -- The model stays sound by these limits.
    sound-by : (nodes : ℕ) → nodes_used m ≤ nodes → SoundGiven Unit (with_nodes nodes) m
    sound-by nodes p = record {
      allowed = tt;
      records = S.records;
      fewer = S.fewer;
      page_room = S.page_room;
      node_room = p;
      tickets = λ u o h. let k = S.tickets u o h in record { some-pages = k.some-pages; few = k.few; bytes = k.bytes; unwoven = k.unwoven };
      updated = S.updated;
      begun = S.begun;
      few = S.few;
      lines = S.lines;
      windows = S.windows;
    }

    -- The update has no more nodes than the worst count.
    next-most : (r n : ℕ) → Worst r n → Within r n m (next_version L m l t f) → 0 < t → t ≤ length m.tickets → count_of (next_update L m l t f) ≤ worst r n
    next-most r n w s o h = count_most r n w m (next_version L m l t f) s (S.tickets t o h).some-pages (omega arith)

    -- Where there are places for the worst count in every update it is not refused for its nodes: with more places it would be accepted, so that there is an update left, with
    -- its places.
    not-15 : (r n : ℕ) → Worst r n → L.updates * worst r n ≤ L.nodes → AllWithin r n m → Within r n m (next_version L m l t f) → assign_number L m l t f ≡ 15 → ⊥
    not-15 r n w room all s e =
        let nodes = nodes_used m + count_of (next_update L m l t f) in
        let z = accepted-by nodes (omega arith) e in
        let p = assign-passed (with_nodes nodes) m l t f z in
        let after = assign-sound (with_nodes nodes) m l t f (sound-by nodes (omega arith)) z in
        let left : suc (length m.updates) ≤ L.updates = omega (arith, after.fewer, assigned-length (with_nodes nodes) m l t f, S.records) in
        let most = mul-le-mul_right (worst r n) left in
        let fits : nodes ≤ L.nodes =
        omega (arith, room, most, suc-mul (length m.updates) (worst r n), used-most r n w all, next-most r n w s p.from p.upto) in
        omega (arith, e, accepted-by L.nodes fits e)

-- ---- any calls

module _ (L : Limits) (a : Areas) (accepted : Accepted L a) (r n : ℕ) (w : Worst r n) (cs : List Call) (l : ℕ) where
  abbrev m : Model
  m = model_after L cs

  sound : SoundGiven Unit L m
  sound = sound-after L tt cs

  -- The store's answers are the model's.
  written : (t f : ℕ) → answer L a cs l (WRITE t f) ≡ (assign_step L m l t f).1.answer
  unfolding on_model on_line
  written t f = ap (λ (o : Outcome). o.answer) (every-answer L a accepted cs (on l (WRITE t f))).same

  appended : (t : ℕ) → answer L a cs l (APPEND t) ≡ (assign_step L m l t (end L cs l)).1.answer
  unfolding on_model on_line
  appended t = ap (λ (o : Outcome). o.answer) (every-answer L a accepted cs (on l (APPEND t))).same

  -- An accepted update, and its count.
  counted : (t f v c : ℕ) → (assign_step L m l t f).1.answer ≡ version_is v c → AssignPassed L m l t f × (count_of (next_update L m l t f) ≡ c)
  counted t f v c e = let q = answer-version (assign_number L m l t f) _ _ v c e in (assign-passed L m l t f q.0, q.1)

  most : (t f v c : ℕ) → WriteWithin L cs l r n t f → (assign_step L m l t f).1.answer ≡ version_is v c → c ≤ worst r n
  most t f v c s e =
      let q = counted t f v c e in
      omega (arith, q.1, next-most L m sound l t f r n w s q.0.from q.0.upto)

  -- The count of a write of n pages inside a blob of r.
  count-inside : (t f v c : ℕ) → Exactly L cs l r n t → f + n ≤ r → answer L a cs l (WRITE t f) ≡ version_is v c → c ≡ node_count f n r
  unfolding node_count
  count-inside t f v c x i e =
      let q = counted t f v c (sym (written t f) ∙ e) in
      let size : max (end L cs l) (f + n) ≡ r = omega (arith, x.size) in
      sym q.1 ∙ rw (x.pages, size)

  counts : Counts L a cs l r n
  counts = record {
    write = λ t f v c s e. most t f v c s (sym (written t f) ∙ e);
    append = λ t v c s e. most t (end L cs l) v c s (sym (appended t) ∙ e);
    reached = λ t v c x e. count-inside t (r / 2 - 1) v c x w.inside e ∙ w.reached;
    costliest = λ t f v c u v' d x y i e e'.
        omega (arith, count-inside t f v c x i e, w.most f i, count-inside u (r / 2 - 1) v' d y w.inside e', w.reached);
  }

  roomy : L.updates * worst r n ≤ L.nodes → AllWithin r n m → Room L a cs l r n
  roomy room all = record {
    write = λ t f s e. never t f s (sym (written t f) ∙ e);
    append = λ t s e. never t (end L cs l) s (sym (appended t) ∙ e);
  }
    where
      never : (t f : ℕ) → WriteWithin L cs l r n t f → (assign_step L m l t f).1.answer ≡ refused 15 → ⊥
      never t f s e = not-15 L m sound l t f r n w room all s (answer-refused (assign_number L m l t f) _ _ 15 e)

pub all-sized : AllSized
all-sized L a accepted r n e =
    let w = worst-cases r n e in
    record { counts = counts L a accepted r n w; room = λ room cs all l. roomy L a accepted r n w cs l room all }
