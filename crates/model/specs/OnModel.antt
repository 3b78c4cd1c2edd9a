-- One step of the plain model: each call by the documents, the table read on the model.
use Rattle.std.specs.Prelude.{Bool, true, false, List, [], ◌∷◌, ◌++◌, ℕ, zero, suc, pred, ◌+◌, ◌-◌, ◌*◌, ◌^◌, max, length, get_or, set, replicate, take, drop, None, Some}
use Rattle.tree.specs.Tree.{Update, Node, node, count_of, weaving, update, newest}
use Rattle.table.specs.Table.{always, first_refusal, unless, begin_rows, put_rows, weave_rows}
use Rattle.table.specs.Table.{line_rows, publish_rows, branch_rows, assign_rows, size_rows, read_rows, page_rows}
use Rattle.model.specs.Calls.{Call, BEGIN, PUT, WEAVE, SETWINDOWS, on, Act, WRITE, APPEND, PUBLISH, BRANCH, ask, Query, read, size, recent, stamp, view, Answer, ticket_is, put_done, version_is, node_is, published_is, waiting, held, line_is, windows_done, filled, size_is, recent_is, stamp_is, part_is, Outcome, says, answers}
use Rattle.model.specs.History.{Ticket, Version, History, no_ticket, pages_of, version_at, to_update, updates, blob_size, is_filled, bit_if, all_filled, due, with_slots, with_woven, version_by}
use Rattle.model.specs.InTurn.{blob_at, bytes_at}
use Rattle.model.specs.Stamp.{stamp_at}
use Rattle.model.specs.Model.{Limits, Line, Model, line_at, update_at, history, ticket_update, number_in, line_from, with_shown, with_published, with_tickets, with_updates, with_lines, with_site_windows}
use Rattle.model.specs.Layout.{nodes_used, pages_used, slot_number}
use Rattle.tree.specs.Tree.{nth}
use Rattle.windows.specs.Windows.{inside_some}
use Rattle.windows.specs.Listed.{windows_of, text_number}

abbrev pub ticket_in : Model → ℕ → Ticket
ticket_in m t = nth no_ticket m.tickets t

-- The two numbers of a node of version v of a history, whose ticket's page numbers are given, by slot: its children's numbers, or a leaf's page number and 0.
abbrev pub left_of : History → ℕ → (ℕ → ℕ) → Node → ℕ
left_of h v number (node a zero) = number (a - (update (updates h) v).f)
left_of h v number (node a (suc k)) = number_in h (newest (updates h) v a (2 ^ k))

abbrev pub right_of : History → ℕ → Node → ℕ
right_of h v (node a zero) = 0
right_of h v (node a (suc k)) = number_in h (newest (updates h) v (a + 2 ^ k) (2 ^ k))

abbrev pub first_page : Node → ℕ
first_page (node a h) = a

abbrev pub span_of : Node → ℕ
span_of (node a h) = 2 ^ h

-- A model and an outcome after a step.
abbrev pub Stepped : Type 0
Stepped = Model × Outcome

-- One of two, by a test.
abbrev pub either : {A : Type 0} → Bool → A → A → A
either true x y = x
either false x y = y

module _ (L : Limits) where
  -- ---- the calls that name no line

  abbrev pub begin_number : Model → ℕ → ℕ
  begin_number m n = first_refusal (begin_rows n (length m.tickets) L.updates (pages_used m) L.pages)

  abbrev pub put_number : Model → ℕ → ℕ → List ℕ → ℕ
  put_number m t i bytes =
      let k = ticket_in m t in
      first_refusal
      (put_rows always t (length m.tickets) (ticket_update m t) (pages_of k) i (bit_if (is_filled (get_or k.slots i None))) (length bytes) L.size)

  abbrev pub weave_number : Model → ℕ → ℕ
  weave_number m t =
      first_refusal
      (weave_rows always always t (length m.tickets) (ticket_update m t) (ticket_in m t).woven (count_of (to_update m.tickets (update_at m (ticket_update m t)))))

  -- BEGIN adds a ticket, its slots empty, woven 0.
  abbrev pub begun : Model → ℕ → Model
  begun m n = with_tickets m (m.tickets ++ with_slots no_ticket (replicate n None) ∷ [])

  -- PUT fills slot i.
  abbrev pub filled_at : Model → ℕ → ℕ → List ℕ → Model
  filled_at m t i bytes =
      let k = ticket_in m t in
      with_tickets m (set m.tickets (pred t) (with_slots k (set k.slots i (Some bytes))))

  -- WEAVE adds 1 to the ticket's woven count.
  abbrev pub woven : Model → ℕ → Model
  woven m t =
      let k = ticket_in m t in
      with_tickets m (set m.tickets (pred t) (with_woven k (suc k.woven)))

  -- SETWINDOWS by a text, whose windows replace those that there were.
  abbrev pub with_windows : Model → List ℕ → Model
  with_windows m t = with_site_windows m (windows_of t)

  -- The node that WEAVE stores next for ticket t, with its numbers and how many are left, as the line on which it got its version has it.
  abbrev pub node_answer : Model → ℕ → Answer
  node_answer m t =
      let x = update_at m (ticket_update m t) in
      let h = history m x.line in
      let u = to_update m.tickets x in
      let y = get_or (weaving u) (ticket_in m t).woven (node 0 0) in
      node_is
      (number_in h x.number)
      (first_page y)
      (span_of y)
      (left_of h x.number (slot_number m t) y)
      (right_of h x.number y)
      (count_of u - suc (ticket_in m t).woven)

  -- ---- the calls on a line

  abbrev pub with_line : Model → ℕ → Line → Model
  with_line m l x = with_lines m (set m.lines l x)

  -- The size after an update of ticket t at page f of a line, and the update, as the line's next version.
  abbrev pub size_after : Model → ℕ → ℕ → ℕ → ℕ
  size_after m l t f = max (blob_size (history m l)) (f + pages_of (ticket_in m t))

  abbrev pub next_version : Model → ℕ → ℕ → ℕ → Version
  next_version m l t f = version_by t l (suc (length (line_at m l).shown)) f (size_after m l t f)

  abbrev pub next_update : Model → ℕ → ℕ → ℕ → Update
  next_update m l t f = to_update m.tickets (next_version m l t f)

  abbrev pub assign_number : Model → ℕ → ℕ → ℕ → ℕ
  assign_number m l t f =
      let k = ticket_in m t in
      first_refusal
      (assign_rows
      always
      t
      (length m.tickets)
      (ticket_update m t)
      l
      (length m.lines)
      (all_filled k.slots)
      f
      (blob_size (history m l))
      (pages_of k)
      (nodes_used m)
      L.nodes
      (count_of (next_update m l t f)))

  -- ASSIGN adds an update, which the line shows as its next version.
  abbrev pub assigned : Model → ℕ → ℕ → ℕ → Model
  assigned m l t f =
      let x = line_at m l in
      with_line (with_updates m (m.updates ++ next_version m l t f ∷ [])) l (with_shown x (x.shown ++ suc (length m.updates) ∷ []))

  -- PUBLISH adds 1 to the line's number published. Inside a window, by the minute given and nothing else, it is held: it moves nothing, due or not.
  abbrev pub published : Model → ℕ → Model
  published m l =
      let x = line_at m l in
      with_line m l (with_published x (suc x.published))

  -- BRANCH adds a line that shows the source's versions up to v, published there too.
  abbrev pub branched : Model → ℕ → ℕ → Model
  branched m l v = with_lines m (m.lines ++ line_from l v (take v (line_at m l).shown) ∷ [])

  abbrev pub line_number : Model → ℕ → ℕ
  line_number m l = first_refusal (line_rows l (length m.lines))

  abbrev pub publish_number : Model → ℕ → ℕ → ℕ
  publish_number m l minute = first_refusal (publish_rows l (length m.lines) minute)

  abbrev pub branch_number : Model → ℕ → ℕ → ℕ
  branch_number m l v = first_refusal (branch_rows l (length m.lines) v (line_at m l).published)

  abbrev pub read_number : Model → ℕ → ℕ → ℕ → ℕ → List ℕ → ℕ
  read_number m l v offset len buffer =
      let h = history m l in
      first_refusal (read_rows always l (length m.lines) v h.published (L.size * (version_at h v).size) offset len (length buffer))

  abbrev pub size_number : Model → ℕ → ℕ → ℕ
  size_number m l v = first_refusal (size_rows l (length m.lines) v (line_at m l).published)

  abbrev pub page_number : Model → ℕ → ℕ → ℕ → ℕ
  page_number m l v p = let h = history m l in first_refusal (page_rows always l (length m.lines) v h.published (version_at h v).size p)

  abbrev pub assign_step : Model → ℕ → ℕ → ℕ → Stepped
  assign_step m l t f =
      let k = assign_number m l t f in
      (unless k m (assigned m l t f), says (answers k (version_is (suc (length (line_at m l).shown)) (count_of (next_update m l t f)))))

  -- What a query of line l gives back.
  unfoldable pub model_outcome : Model → ℕ → Query → Outcome
  model_outcome m l (read v offset len buffer) =
      let k = read_number m l v offset len buffer in
      record { answer = answers k filled; buffer = unless k buffer (take len (drop offset (bytes_at (history m l) v)) ++ drop len buffer) }
  model_outcome m l (size v) = says (answers (size_number m l v) (size_is (L.size * (version_at (history m l) v).size)))
  model_outcome m l recent = says (answers (line_number m l) (recent_is (line_at m l).published))
  model_outcome m l (stamp v p) = says (answers (page_number m l v p) (stamp_is (stamp_at (history m l) v p)))
  model_outcome m l (view v p) = says (part_is (unless (page_number m l v p) [] (get_or (blob_at (history m l) v) p [])))

  -- One step on line l: a query moves nothing.
  unfoldable pub on_line : Model → ℕ → Act → Stepped
  on_line m l (WRITE t f) = assign_step m l t f
  on_line m l (APPEND t) = assign_step m l t (blob_size (history m l))
  on_line m l (PUBLISH minute) =
      let k = publish_number m l minute in
      let h = inside_some m.windows minute in
      let d = due (history m l) in (
        unless k m (either h m (either d (published m l) m)),
        says (answers k (either h held (either d (published_is (suc (line_at m l).published)) waiting))),
      )
  on_line m l (BRANCH v) = let k = branch_number m l v in (unless k m (branched m l v), says (answers k (line_is (length m.lines))))
  on_line m l (ask q) = (m, model_outcome m l q)

  -- One step: where the table refuses, nothing moves.
  unfoldable pub on_model : Model → Call → Stepped
  on_model m (BEGIN n) = let k = begin_number m n in (unless k m (begun m n), says (answers k (ticket_is (suc (length m.tickets)))))
  on_model m (PUT t i bytes) = let k = put_number m t i bytes in (unless k m (filled_at m t i bytes), says (answers k put_done))
  on_model m (WEAVE t) = let k = weave_number m t in (unless k m (woven m t), says (answers k (node_answer m t)))
  on_model m (SETWINDOWS t) = let k = text_number t in (unless k m (with_windows m t), says (answers k windows_done))
  on_model m (on l a) = on_line m l a
