-- Calls of other lines leave a line, and the matched tickets, as they are.
-- Assumes nothing.
use mathlib.Core.Path.{◌≡◌, refl, sym, ap, ◌∙◌}
use mathlib.Core.Logic.{◌≢◌}
use mathlib.Core.Bool.{false}
use mathlib.Core.List.{List}
use Prim.Native.Nat.{ℕ, suc, ◌≤◌, ◌<◌}
use native.Mathlib.Decide.{ℕ_discrete}
use native.Mathlib.Omega.{arith}
use borrow.Author.Tests.{eqb-false, le-leb, lt-ltb}
use lib.ListN.{length, length-set}
use Rattle.tree.specs.Tree.{nth}
use Rattle.table.specs.Table.{unless}
use Rattle.table.proofs.Table.{unless-keeps}
use Rattle.windows.specs.Windows.{inside_some}
use Rattle.model.specs.Calls.{Call, BEGIN, PUT, WEAVE, Act, WRITE, APPEND, PUBLISH, BRANCH, ask}
use Rattle.model.specs.History.{Ticket, Version, History, no_ticket, ticket_at, version_at, blob_size, due}
use Rattle.model.specs.Model.{Limits, Model, with_tickets as model_with, line_at, update_at, ticket_update, history}
use Rattle.model.specs.OnModel.{ticket_in, either, begin_number, begun as with_ticket, put_number, filled_at, publish_number, published, branched, on_line, on_model, weave_number, woven, branch_number, next_version, assign_number, assigned as with_assigned, assign_step}
use Rattle.model.proofs.Lists.Nth.{length-snoc, nth-set-other, nth-set-field}
use Rattle.model.proofs.Model.Updated.{update_other, update-le}
use Rattle.model.proofs.Model.Passed.{PutPassed, put-passed, weave-passed, assign-passed, publish-passed}
use Rattle.model.proofs.Calls.Histories.{with_tickets, published-apart, branched-apart, assigned-apart}
use Rattle.model.proofs.Calls.Kept.Begin.{new_ticket as empty_ticket, begun-ticket}
use Rattle.model.proofs.Calls.Kept.Assign.{assigned-older, assigned-new, assigned-gets}
use Rattle.model.proofs.Calls.Kept.Every.{either-keeps}
use Rattle.isolation.specs.Isolation.{version_of, here, own_number, among, Tickets, SameLine, Match, BeginsSame, Aside, new_ticket, other_put, other_weave, other_line, new_line}
use Rattle.isolation.proofs.Lists.{among-not}
use Rattle.isolation.proofs.Kept.{Kept, shown-upto, open-not-shown, not-shown}
use Rattle.isolation.proofs.Match.{line-by, Framed, framed-refl, Joins, match-framed}
use Rattle.isolation.proofs.Tickets.{not-here, own-nowhere, own-away, own-mine, ticket-upto, tickets-stay}

-- ---- ASSIGN, in the numbers of the versions that tickets got on a line

-- What a ticket's update and its version make of a line's number for it.
own-by : (l : ℕ) (m m₁ : Model) (t : ℕ) → ticket_update m₁ t ≡ ticket_update m t → update_at m₁ (ticket_update m t) ≡ update_at m (ticket_update m t) → own_number l m₁ t ≡ own_number l m t
own-by l m m₁ t e q = rw (e, q)

module _ (L : Limits) (m : Model) (k t f : ℕ) where
  pub own-other : (l u : ℕ) → u ≢ t → own_number l (with_assigned L m k t f) u ≡ own_number l m u
  own-other l u n =
      own-by l m (with_assigned L m k t f) u (update_other 1 m.updates (next_version L m k t f) u (λ e. n (sym e)))
      (assigned-older L m k t f (ticket_update m u) (update-le m u))

  module _ (free : ticket_update m t ≡ 0) where
    new-version : version_of (with_assigned L m k t f) t ≡ next_version L m k t f
    new-version = ap (update_at (with_assigned L m k t f)) (assigned-gets L m k t f free) ∙ assigned-new L m k t f

    new-got : 0 < ticket_update (with_assigned L m k t f) t
    new-got = omega (arith, assigned-gets L m k t f free)

    pub own_new : own_number k (with_assigned L m k t f) t ≡ suc (length (line_at m k).shown)
    own_new =
        own-mine k (with_assigned L m k t f) t new-got (ap (λ (x : Version). x.line) new-version)
        ∙ ap (λ (x : Version). x.number) new-version

    -- On another line it gets none.
    pub own-apart : (l : ℕ) → l ≢ k → (u : ℕ) → own_number l (with_assigned L m k t f) u ≡ own_number l m u
    own-apart l n u = elim (ℕ_discrete u t) [
      | yes q ↦
          rw q
          (own-away l (with_assigned L m k t f) t new-got (λ e. n (sym e ∙ ap (λ (x : Version). x.line) new-version)) ∙ sym (own-nowhere l m t free))
      | no d ↦ own-other l u d
    ]

-- ---- BEGIN, PUT and WEAVE, in what a line shows

-- Other tickets, the same where the line shows them.
same-tickets : (h : History) (ks : List Ticket) → ((v : ℕ) → nth no_ticket ks (version_at h v).ticket ≡ ticket_at h (version_at h v).ticket) → SameLine (with_tickets h ks) h
same-tickets h ks e = record {
  count = refl;
  versions = λ v. let x = version_at h v in ap (λ (k : Ticket). record { f = x.f; size = x.size; slots = k.slots }) (e v);
  woven = λ v. ap (λ (k : Ticket). k.woven) (e v);
  published = refl;
}

module _ (L : Limits) (m : Model) (S : Kept L m) (l : ℕ) (in-l : l < length m.lines) where
  pub begun-line : (n : ℕ) → SameLine (history (with_ticket L m n) l) (history m l)
  begun-line n = same-tickets (history m l) _ λ v. begun-ticket L m n (version_at (history m l) v).ticket (shown-upto S l in-l v)

  pub filled-line : (t i : ℕ) (bytes : List ℕ) → PutPassed L m t i bytes → SameLine (history (filled_at L m t i bytes) l) (history m l)
  filled-line t i bytes p = same-tickets (history m l) _ λ v.
      nth-set-other no_ticket m.tickets t _ p.from (version_at (history m l) v).ticket (open-not-shown S l in-l t p.from p.unassigned v)

-- ---- each call

module _ (L : Limits) (l : ℕ) (ts : List ℕ) (m : Model) (S : Kept L m) (T : Tickets ts m.tickets) where
  stay : Framed l ts m m
  stay = framed-refl l ts m T

  frame-unless : (r : ℕ) (m₁ : Model) → (r ≡ 0 → Framed l ts m m₁) → Framed l ts m (unless r m m₁)
  frame-unless r m₁ f = unless-keeps (Framed l ts m) r m m₁ stay f

  -- Matched tickets keep their pages, and the line its versions.
  frame-tickets : (ks : List Ticket) → length m.tickets ≤ length ks → ((k : ℕ) → (nth no_ticket ks (nth 0 ts k)).slots ≡ (ticket_in m (nth 0 ts k)).slots)
      → (l < length m.lines → SameLine (with_tickets (history m l) ks) (history m l))
      → Framed l ts m (model_with m ks)
  frame-tickets ks q s e = record { tickets = tickets-stay ks q T; slots = s; own = λ k. refl; line = e; windows = refl }

  frame-begin : (n : ℕ) → Framed l ts m (on_model L m (BEGIN n)).0
  unfolding on_model
  frame-begin n = frame-unless (begin_number L m n) (with_ticket L m n) λ z.
      frame-tickets (with_ticket L m n).tickets (omega (arith, length-snoc m.tickets (empty_ticket L m n)))
      (λ k. ap (λ (x : Ticket). x.slots) (begun-ticket L m n (nth 0 ts k) (ticket-upto T k)))
      (λ h. begun-line L m S l h n)

  frame-put : (t i : ℕ) (bytes : List ℕ) → among ts t ≡ false → Framed l ts m (on_model L m (PUT t i bytes)).0
  unfolding on_model
  frame-put t i bytes e = frame-unless (put_number L m t i bytes) (filled_at L m t i bytes) λ z.
      let p = put-passed L m t i bytes z in
      frame-tickets (filled_at L m t i bytes).tickets (rw length-set (omega arith))
      (λ k. ap (λ (x : Ticket). x.slots) (nth-set-other no_ticket m.tickets t _ p.from (nth 0 ts k) (among-not ts t p.from e k)))
      (λ h. filled-line L m S l h t i bytes p)

  frame-weave : (t : ℕ) → here l m t ≡ false → Framed l ts m (on_model L m (WEAVE t)).0
  unfolding on_model
  frame-weave t e = frame-unless (weave_number L m t) (woven L m t) λ z.
      let p = weave-passed L m t z in
      frame-tickets (woven L m t).tickets (rw length-set (omega arith))
      (λ k. nth-set-field no_ticket m.tickets t _ p.from (λ (x : Ticket). x.slots) (nth 0 ts k) refl)
      (λ h. same-tickets (history m l) _ λ v.
      nth-set-other no_ticket m.tickets t _ p.from (version_at (history m l) v).ticket (not-shown S l h t (not-here l m t e p.assigned) p v))

  -- The line reads as it did, and matched tickets have their versions of it.
  reads_on : (m₁ : Model) → (l < length m.lines → history m₁ l ≡ history m l) → m₁.tickets ≡ m.tickets → m₁.windows ≡ m.windows
      → ((k : ℕ) → own_number l m₁ (nth 0 ts k) ≡ own_number l m (nth 0 ts k)) → Framed l ts m m₁
  reads_on m₁ e q w o = record {
    tickets = rw q T;
    slots = λ k. ap (λ (ks : List Ticket). (nth no_ticket ks (nth 0 ts k)).slots) q;
    own = o;
    line = λ h. line-by (e h);
    windows = w;
  }

  -- A new line, from whichever line.
  pub frame-branched : (k v : ℕ) → Framed l ts m (branched L m k v)
  frame-branched k v = reads_on (branched L m k v) (λ h. branched-apart L m k v l h) refl refl (λ j. refl)

  frame-branch : (k v : ℕ) → Framed l ts m (on_line L m k (BRANCH v)).0
  unfolding on_line
  frame-branch k v = frame-unless (branch_number L m k v) (branched L m k v) λ z. frame-branched k v

  module _ (k : ℕ) (other : l ≢ k) where
    frame-assign : (t f : ℕ) → Framed l ts m (assign_step L m k t f).0
    frame-assign t f = frame-unless (assign_number L m k t f) (with_assigned L m k t f) λ z.
        let p = assign-passed L m k t f z in
        reads_on (with_assigned L m k t f) (λ h. assigned-apart L m S k t f p.line l h other) refl refl
        (λ j. own-apart L m k t f p.unassigned l other (nth 0 ts j))

    -- PUBLISH outside the windows.
    frame-publish : k < length m.lines → Framed l ts m (either (due (history m k)) (published L m k) m)
    frame-publish there = either-keeps (Framed l ts m) (due (history m k)) (published L m k) m stay λ d.
        reads_on (published L m k) (λ h. published-apart L m k there l other) refl refl (λ j. refl)

    frame-act : (a : Act) → Framed l ts m (on_line L m k a).0
    unfolding on_line
    frame-act (WRITE t f) = frame-assign t f
    frame-act (APPEND t) = frame-assign t (blob_size (history m k))
    frame-act (PUBLISH minute) =
        let now = either (due (history m k)) (published L m k) m in
        frame-unless (publish_number L m k minute) (either (inside_some m.windows minute) m now) λ z.
        either-keeps (Framed l ts m) (inside_some m.windows minute) m now (frame-publish (publish-passed L m k minute z).line) (λ e. stay)
    frame-act (BRANCH v) = frame-branch k v
    frame-act (ask q) = stay

  pub frame : {l' : ℕ} {m' : Model} {c : Call} → Aside L l l' ts m m' c → Framed l ts m (on_model L m c).0
  unfolding on_model
  frame new_ticket = frame-begin _
  frame (other_put {t = t} {i = i} {bytes = bytes} e) = frame-put t i bytes e
  frame (other_weave {t = t} e) = frame-weave t e
  frame (other_line {k = k} {a = a} e q) = frame-act k (λ i. eqb-false k l e (sym i)) a
  frame (new_line {k = k} {v = v} q) = frame-branch k v

-- ---- a line that begins

module _ (L : Limits) (l l' : ℕ) (m m' : Model) where
  begins-same : (m₁ : Model) → BeginsSame l l' m m₁ m' → Joins l l' m m₁ m'
  begins-same m₁ q n h h' = rw (le-leb (length m.lines) l n, lt-ltb l (length m₁.lines) h, lt-ltb l' (length m'.lines) h') at q

  -- None begins where there are as many as before.
  no-line : (r : ℕ) (m₁ : Model) → length m₁.lines ≡ length m.lines → Joins l l' m (unless r m m₁) m'
  no-line r m₁ e n h h' = absurd (omega (arith, unless-keeps (λ (x : Model). length x.lines ≡ length m.lines) r m m₁ refl (λ z. e)))

  joins : {ts : List ℕ} {c : Call} → Aside L l l' ts m m' c → Joins l l' m (on_model L m c).0 m'
  unfolding on_model
  joins (new_ticket {n = n}) = no-line (begin_number L m n) (with_ticket L m n) refl
  joins (other_put {t = t} {i = i} {bytes = bytes} e) = no-line (put_number L m t i bytes) (filled_at L m t i bytes) refl
  joins (other_weave {t = t} e) = no-line (weave_number L m t) (woven L m t) refl
  joins (other_line {k = k} {a = a} e q) = begins-same (on_line L m k a).0 q
  joins (new_line {k = k} {v = v} q) = begins-same (on_line L m k (BRANCH v)).0 q

  -- After a call of one list alone the lines still match.
  pub match-aside : {ts ts' : List ℕ} {c : Call} → Kept L m → Match l l' ts ts' m m' → Aside L l l' ts m m' c → Match l l' ts ts' (on_model L m c).0 m'
  match-aside {ts = ts} S M a = match-framed M (frame L l ts m S M.matched.tickets a) (joins a)
