-- ASSIGN on the image of a sound model, as a write or an append, is the model's.
-- Assumes nothing.
use mathlib.Core.Path.{◌≡◌, refl, sym, ap, ap₂, ◌∙◌}
use mathlib.Core.Logic.{inl, inr, ◌≢◌}
use mathlib.Core.List.{List}
use Prim.Native.Nat.{ℕ, zero, suc, ◌+◌, ◌-◌, ◌≤◌, ◌<◌, max}
use native.Mathlib.Omega.{arith}
use borrow.Author.Tests.{le-ltb}
use lib.Dec.{ltb}
use lib.ListN.{length, get_or-eq_default}
use Rattle.tree.specs.Tree.{count_of}
use Rattle.tree.proofs.Meets.{lt-or-le}
use Rattle.lines.specs.declared.Branch.{Branch}
use Rattle.register.specs.declared.Record.{Record}
use Rattle.table.specs.Table.{◌<?◌, ◌≤?◌, ◌or◌, always, assign_rows, unless}
use Rattle.versions.specs.Store.{lengths_of, record_of}
use Rattle.assign.specs.Assign.{update_at, size_after, all_put, assign_refusal, assigned as assigned_case, with_version, with_update, assigned_register}
use Rattle.model.specs.Calls.{on, WRITE, APPEND, version_is, Outcome, answers}
use Rattle.model.specs.History.{Version, pages_of, blob_size, all_filled}
use Rattle.model.specs.Model.{Limits, Model, no_line, line_at, update_at as update_in, history, ticket_update}
use Rattle.model.specs.Layout.{nodes_used}
use Rattle.model.specs.OnModel.{either, ticket_in, size_after as size_in, next_update, assign_number, assigned, assign_step, on_line, on_model}
use Rattle.model.proofs.Lists.Laid.{Pair, ones_pair}
use Rattle.model.proofs.Area.Image.{woven_of, pages_image, nodes_image}
use Rattle.model.proofs.Model.Sound.{Sound}
use Rattle.model.proofs.Model.Passed.{AssignPassed, assign-passed}
use Rattle.model.proofs.Lists.Nth.{length-snoc}
use Rattle.model.proofs.Area.LayoutLaws.{nodes-grow, pages-used-kept, pages-same}
use Rattle.model.proofs.Model.Shown.{shown_at, blob-shown}
use Rattle.model.proofs.Calls.Histories.{assigned-apart}
use Rattle.model.proofs.Calls.Kept.Assign.{assigned-length, assigned-new, assigned-used, assigned-lines, assigned-this, assigned-other, assigned-versions, assigned-next-version, assigned-grown}
use Rattle.demands.specs.Answers.{assigned_answer}
use Rattle.demands.specs.Run.{State, assign_call, on_line_of, on_store}
use Rattle.demands.proofs.Image.{register_image, state_by, branch_image, store_image, windows_image, areas_image, image}
use Rattle.demands.proofs.Masks.{mask-all}
use Rattle.demands.proofs.Records.{record-at, limited-same}
use Rattle.demands.proofs.Lines.{lines-in, blob-small, line-in, sources-written, words-written}
use Rattle.demands.proofs.Steps.Numbers.{AssignReads, assign_alike, image-number}
use Rattle.demands.proofs.Steps.States.{leaves, state_of, state-same}
use Rattle.demands.proofs.Steps.Grown.{cells-grown}
use Rattle.demands.proofs.Steps.Assigned.{update-there, version-there, assigned-register}

-- A node of an update that has none woven.
none-woven : (i w : ℕ) (x : Pair) → w ≡ 0 → either (ltb i w) x ones_pair ≡ ones_pair
none-woven i w x e = rw (e, le-ltb i 0 (omega arith))

module _ (L : Limits) (m : Model) (S : Sound L m) (l f : ℕ) where
  -- ---- the number

  -- The update that would be made, where it ends within the limit.
  update_same : (t : ℕ) → 0 < t → t ≤ length m.tickets → f + pages_of (ticket_in m t) ≤ 4096
      → update_at (blob_size (history m l)) f (pages_of (ticket_in m t)) ≡ next_update L m l t f
  update_same t o h i =
      let n = pages_of (ticket_in m t) in
      let s = (S.tickets t o h).some-pages in
      limited-same f (f + n - 1) (max (blob_size (history m l)) (f + n)) (omega arith) (omega arith) (omega (arith, blob-small L m S l))

  assign_reads : (t : ℕ) → 0 < t → t ≤ length m.tickets
      → let r = record_of (areas_image L m) t in
      AssignReads t L.updates r.update (ticket_update m t) (all_put r) (all_filled (ticket_in m t).slots) f r.n (pages_of (ticket_in m t))
      (count_of (update_at (blob_size (history m l)) f r.n)) (count_of (next_update L m l t f))
  assign_reads zero o h = absurd (omega arith)
  assign_reads (suc t) o h =
      let e = record-at L m t (omega (arith, S.records)) in
      record {
        there = omega (arith, S.records);
        version = rw e;
        puts = rw e (mask-all (ticket_in m (suc t)).slots);
        pages = rw e;
        count = λ i. rw e (ap count_of (update_same (suc t) o h i));
      }

  -- The next update's record is there, and that of the line's next version.
  record-left : (t : ℕ) → AssignPassed L m l t f → (length m.updates < L.updates) × (length (line_at m l).shown < L.updates)
  record-left zero p = absurd (omega (arith, p.from))
  record-left (suc t) p = (update-there L m S l t f p, version-there L m S l t f p)

  assign-number : (t : ℕ) → assign_refusal (store_image L m) (lengths_of (areas_image L m)) (record_of (areas_image L m) t) l t f ≡ assign_number L m l t f
  unfolding assign_refusal
  assign-number t =
      let r = record_of (areas_image L m) t in
      let blob = blob_size (history m l) in
      rw (lines-in L m S, line-in L m S l)
      (image-number L m S
      (assign_rows (t ≤? L.updates) t (length m.tickets) r.update l (length m.lines) (all_put r) f blob r.n (nodes_used m) L.nodes (count_of (update_at blob f r.n)))
      (assign_rows always t (length m.tickets) (ticket_update m t) l (length m.lines) (all_filled (ticket_in m t).slots) f blob (pages_of (ticket_in m t)) (nodes_used m) L.nodes
      (count_of (next_update L m l t f)))
      (L.updates <? t or L.updates ≤? length m.updates or L.updates ≤? length (line_at m l).shown)
      (assign_alike _ _ _ _ _ _ _ _ _ _ _ _ _ _ _ _ _ (assign_reads t))
      (λ z.
      let p = assign-passed L m l t f z in
      (omega (arith, p.upto, S.records), record-left t p)))

  -- ---- what it leaves

  module _ (t : ℕ) (p : AssignPassed L m l (suc t) f) where
    -- The model after.
    abbrev after : Model
    after = assigned L m l (suc t) f

    -- The line's state has one version more, and the size after it; the other lines' stay.
    blob-gets : blob_size (history after l) ≡ size_in L m l (suc t) f
    blob-gets =
        blob-shown after l
        ∙ ap (λ (v : ℕ). (update_in after (shown_at after l v)).size) (assigned-versions L m l (suc t) f p.line)
        ∙ ap (λ (u : Version). u.size) (assigned-next-version L m l (suc t) f p.line)

    line_gets : branch_image after l ≡ with_version (branch_image m l) (size_in L m l (suc t) f)
    line_gets = ap₂ state_by (assigned-this L m l (suc t) f p.line) blob-gets ∙ rw (length-snoc (line_at m l).shown (suc (length m.updates)))

    blob-stays : (k : ℕ) → k ≢ l → blob_size (history after k) ≡ blob_size (history m k)
    blob-stays k n = elim (lt-or-le k (length m.lines)) [
      | inl h ↦ ap blob_size (assigned-apart L m S l (suc t) f p.line k h n)
      | inr h ↦ rw (assigned-other L m l (suc t) f p.line k n, get_or-eq_default m.lines no_line h)
    ]

    line_stays : (k : ℕ) → k ≢ l → branch_image m k ≡ branch_image after k
    line_stays k n = sym (ap₂ state_by (assigned-other L m l (suc t) f p.line k n) (blob-stays k n))

    assigned-store : with_update (store_image L m) l (count_of (next_update L m l (suc t) f)) (size_in L m l (suc t) f) ≡ store_image L after
    assigned-store =
        let b = with_version (branch_image m l) (size_in L m l (suc t) f) in
        let near : l < 16 = omega (arith, p.line, S.few) in
        rw (
          line-in L m S l,
          sources-written L m S after l b near line_gets line_stays,
          words-written L m S after l b near line_gets line_stays,
          assigned-used L m l (suc t) f p.line (S.lines l p.line).published,
          pages-used-kept m after (assigned-grown L m l (suc t) f p.line) refl,
          assigned-length L m l (suc t) f,
          assigned-lines L m l (suc t) f,
        )

    assigned-pages : pages_image L m ≡ pages_image L after
    assigned-pages = pages-same m after (assigned-grown L m l (suc t) f p.line) L refl (λ u i o h k s. refl)

    -- None of the new update's nodes is woven.
    new-woven : woven_of after (suc (length m.updates)) ≡ 0
    new-woven =
        ap (λ (u : Version). (ticket_in m u.ticket).woven) (assigned-new L m l (suc t) f) ∙ (S.tickets (suc t) p.from p.upto).unwoven p.unassigned

    assigned-nodes : nodes_image L m ≡ nodes_image L after
    assigned-nodes =
        let g = assigned-grown L m l (suc t) f p.line in
        nodes-grow m after g L (assigned-length L m l (suc t) f) (cells-grown L m after S g (λ k o h. refl)) (λ i. none-woven i _ _ new-woven)

  assign-image : (t : ℕ) → AssignPassed L m l t f
      → state_of (with_update (store_image L m) l (count_of (next_update L m l t f)) (size_in L m l t f)) (windows_image m) (pages_image L m) (nodes_image L m)
      (assigned_register (store_image L m) (areas_image L m) l t f)
      ≡ image L (assigned L m l t f)
  assign-image zero p = absurd (omega (arith, p.from))
  assign-image (suc t) p = state-same (assigned-store t p) (assigned-pages t p) (assigned-nodes t p) (assigned-register L m S l t f p)

  -- The pages and the count of nodes that the record says, where the table accepts.
  pages-said : (t : ℕ) → AssignPassed L m l t f → (record_of (areas_image L m) t).n ≡ pages_of (ticket_in m t)
  pages-said t p = (assign_reads t p.from p.upto).pages

  count-said : (t : ℕ) → AssignPassed L m l t f → count_of (update_at (blob_size (history m l)) f (record_of (areas_image L m) t).n) ≡ count_of (next_update L m l t f)
  count-said t p = (assign_reads t p.from p.upto).count p.inside

  -- What it leaves and answers by the table's number.
  assign-leaves : (t k n c : ℕ) (r : List Record) → (k ≡ 0 → n ≡ pages_of (ticket_in m t)) → (k ≡ 0 → c ≡ count_of (next_update L m l t f))
      → (k ≡ 0 → state_of (with_update (store_image L m) l (count_of (next_update L m l t f)) (size_in L m l t f)) (windows_image m) (pages_image L m) (nodes_image L m) r ≡ image L (assigned L m l t f))
      → leaves
      (state_of (unless k (store_image L m) (with_update (store_image L m) l c (size_after (blob_size (history m l)) f n))) (windows_image m) (pages_image L m) (nodes_image L m)
      (unless k (register_image L m) r))
      (assigned_answer (assigned_case k (suc (length (line_at m l).shown)) c))
      ≡ leaves (image L (unless k m (assigned L m l t f))) (answers k (version_is (suc (length (line_at m l).shown)) (count_of (next_update L m l t f))))
  unfolding unless
  assign-leaves t zero n c r a b h =
      rw (a refl, b refl) (ap (λ x. leaves x (version_is (suc (length (line_at m l).shown)) (count_of (next_update L m l t f)))) (h refl))
  assign-leaves t (suc k) n c r a b h = refl

  -- What ASSIGN leaves and answers, by the line's state and the table's number.
  abbrev left_by : ℕ → Branch → ℕ → State × Outcome
  left_by t b k =
      let n = (record_of (areas_image L m) t).n in
      let c = count_of (update_at b.blob f n) in
      leaves
      (state_of (unless k (store_image L m) (with_update (store_image L m) l c (size_after b.blob f n))) (windows_image m) (pages_image L m) (nodes_image L m)
      (unless k (register_image L m) (assigned_register (store_image L m) (areas_image L m) l t f)))
      (assigned_answer (assigned_case k (suc b.assigned.0) c))

  assign-step : (t : ℕ) → assign_call (image L m) l t f ≡ (image L (assign_step L m l t f).0, (assign_step L m l t f).1)
  assign-step t =
      let p : assign_number L m l t f ≡ 0 → AssignPassed L m l t f = assign-passed L m l t f in
      ap₂ (left_by t) (line-in L m S l) (assign-number t)
      ∙ assign-leaves t (assign_number L m l t f) (record_of (areas_image L m) t).n _ _ (λ z. pages-said t (p z)) (λ z. count-said t (p z)) (λ z. assign-image t (p z))

module _ (L : Limits) (m : Model) (S : Sound L m) where
  pub write_step : (l t f : ℕ) → on_store (image L m) (on l (WRITE t f)) ≡ (image L (on_model L m (on l (WRITE t f))).0, (on_model L m (on l (WRITE t f))).1)
  unfolding on_store on_line_of on_model on_line
  write_step l t f = assign-step L m S l f t

  -- An append is a write at the size that the line's state says.
  pub append-step : (l t : ℕ) → on_store (image L m) (on l (APPEND t)) ≡ (image L (on_model L m (on l (APPEND t))).0, (on_model L m (on l (APPEND t))).1)
  unfolding on_store on_line_of on_model on_line
  append-step l t =
      ap (λ (b : Branch). assign_call (image L m) l t b.blob) (line-in L m S l)
      ∙ assign-step L m S l (blob_size (history m l)) t
