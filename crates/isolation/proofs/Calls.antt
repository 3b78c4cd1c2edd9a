-- One call that names no line in two matched states: it gives back the same and the states stay matched; or one answer is excused.
-- Assumes nothing.
use Rattle.std.proofs.Common.{Some}
use mathlib.Core.Path.{◌≡◌, refl, sym, ap, subst₂, ◌∙◌}
use mathlib.Core.Logic.{inl, inr, ◌≢◌}
use mathlib.Core.Bool.{false, not, ◌||◌, cond}
use mathlib.Core.List.{List, [], ◌∷◌, ◌++◌}
use Prim.Native.Nat.{ℕ, zero, suc, ◌+◌, ◌-◌, ◌^◌, ◌<◌}
use native.Mathlib.Decide.{ℕ_discrete}
use native.Mathlib.Omega.{arith}
use borrow.Author.Tests.{ne_eqb}
use lib.Dec.{leb, ltb, eqb}
use lib.ListN.{length, get_or, set, length-set}
use Rattle.tree.specs.Tree.{Update, Node, node, nth, count_of, weaving, update, newest}
use Rattle.tree.proofs.Meets.{lt-or-le}
use Rattle.table.specs.Table.{always, holds, first_refusal, unless, begin_rows, put_rows, weave_rows}
use Rattle.windows.specs.Listed.{text_number}
use Rattle.model.specs.Calls.{BEGIN, PUT, WEAVE, SETWINDOWS, Answer, ticket_is, put_done, node_is, windows_done}
use Rattle.model.specs.History.{Ticket, Version, History, no_ticket, version_at, to_update, updates, with_slots}
use Rattle.model.specs.Model.{Limits, Model, ticket_update, history, number_in}
use Rattle.model.specs.Layout.{pages_used, slot_number}
use Rattle.model.specs.OnModel.{ticket_in, left_of, right_of, first_page, span_of, begin_number, begun as with_ticket, put_number, filled_at, weave_number, woven, with_windows, node_answer, on_model}
use Rattle.model.proofs.Lists.Nth.{length-snoc, nth-append, nth-new, nth-set-same, nth-set-other, nth-set-field}
use Rattle.model.proofs.Area.Image.{node_of as node_in}
use Rattle.model.proofs.Model.Updated.{update-le, update-ticket}
use Rattle.model.proofs.Line.Owner.{own-update}
use Rattle.model.proofs.Area.Leaves.{next-number}
use Rattle.model.proofs.Model.Facts.{ticket-past, update-got}
use Rattle.model.proofs.Model.Passed.{PutPassed, put-passed, WeavePassed, weave-passed}
use Rattle.model.proofs.Calls.Kept.Begin.{new_ticket as empty_ticket, begun-ticket, begun-new}
use Rattle.isolation.specs.Isolation.{version_of, elsewhere, own_number, absent, first_number, Tickets, woven_at, SameLine, Match, assigned, version, SameAnswer, word, ticket, inner, leaf, one_more}
use Rattle.isolation.proofs.Lists.{nth-snocs, in-list-at}
use Rattle.isolation.proofs.Kept.{Kept, shows-number}
use Rattle.isolation.proofs.Tickets.{elsewhere-line, not-elsewhere, own-nowhere, is-there, there-is, ticket-upto, tickets-stay, Pair, assigned-cases, mine-back}
use Rattle.isolation.proofs.Match.{line-between}
use Rattle.isolation.proofs.Frame.{begun-line, filled-line}
use Rattle.isolation.proofs.Alike.{updates-same, own_is, Own, own}
use Rattle.isolation.proofs.Refusals.{Fine, no-refusal, fine-row, Alike, alike, mine, yours, alike-row, alike-fine, twin, Step}

-- ---- WEAVE's answer

abbrev node_of : History → ℕ → (ℕ → ℕ) → Update → ℕ → Answer
node_of h v p u w =
    let y = get_or (weaving u) w (node 0 0) in
    node_is (number_in h v) (first_page y) (span_of y) (left_of h v p y) (right_of h v y) (count_of u - suc w)

module _ (l l' : ℕ) (m m' : Model) (t t' : ℕ) (same : updates (history m l) ≡ updates (history m' l')) where
  by-node : (v left : ℕ) (y : Node) → SameAnswer l l' m m' t t'
      (node_is (number_in (history m l) v) (first_page y) (span_of y) (left_of (history m l) v (λ i. first_number m t + i) y) (right_of (history m l) v y) left)
      (node_is (number_in (history m' l') v) (first_page y) (span_of y) (left_of (history m' l') v (λ i. first_number m' t' + i) y) (right_of (history m' l') v y) left)
  by-node v left (node a zero) = rw same (leaf (version v) a (a - (update (updates (history m' l')) v).f) left)
  by-node v left (node a (suc k)) =
      let us = updates (history m' l') in
      rw same (inner (version v) (version (newest us v a (2 ^ k))) (version (newest us v (a + 2 ^ k) (2 ^ k))) a k left)

  node_alike : (i i' v v' : ℕ) (u u' : Update) (w w' : ℕ) → i ≡ l → i' ≡ l' → v ≡ v' → u ≡ u' → w ≡ w'
      → SameAnswer l l' m m' t t' (node_of (history m i) v (λ i. first_number m t + i) u w) (node_of (history m' i') v' (λ i. first_number m' t' + i) u' w')
  node_alike i i' v v' u u' w w' e e' ev eu ew = rw (e, e', ev, eu, ew) (by-node v' (count_of u' - suc w') (get_or (weaving u') w' (node 0 0)))

-- The page number of a leaf that WEAVE stores next is so many after the ticket's first.
module _ (L : Limits) (m : Model) (S : Kept L m) (t : ℕ) (p : WeavePassed m t) where
  abbrev its : Version
  its = version_of m t

  left-first : (y : Node) → node_in m (ticket_update m t) (ticket_in m t).woven ≡ y
      → left_of (history m its.line) its.number (slot_number m t) y ≡ left_of (history m its.line) its.number (λ i. first_number m t + i) y
  left-first (node a zero) e =
      let f = ap (λ (u : Update). u.f) (own-update L m S (ticket_update m t) p.assigned (update-le m t)) in
      rw f (next-number L m S t p a e)
  left-first (node a (suc k)) e = refl

  node-first : node_answer L m t ≡ node_of (history m its.line) its.number (λ i. first_number m t + i) (to_update m.tickets its) (ticket_in m t).woven
  node-first =
      let y = node_in m (ticket_update m t) (ticket_in m t).woven in
      ap (λ n. node_is (number_in (history m its.line) its.number) (first_page y) (span_of y) n (right_of (history m its.line) its.number y)
      (count_of (to_update m.tickets its) - suc (ticket_in m t).woven))
      (left-first y refl)

weave-alike : (t t' T T' u u' w w' n n' : ℕ) → eqb t 0 || ltb T t ≡ eqb t' 0 || ltb T' t' → (0 < u → (0 < u') × (w ≡ w') × (n ≡ n')) → (0 < u' → 0 < u)
    → first_refusal (weave_rows always always t T u w n) ≡ first_refusal (weave_rows always always t' T' u' w' n')
unfolding first_refusal weave_rows holds
weave-alike t t' T T' zero zero w w' n n' e f g = rw e
weave-alike t t' T T' zero (suc u') w w' n n' e f g = absurd (omega (arith, g (omega arith)))
weave-alike t t' T T' (suc u) u' w w' n n' e f g =
    let q = f (omega arith) in
    rw (e, q.1, q.2, ne_eqb u' 0 (λ z. omega (arith, q.0)), ne_eqb (suc u) 0 (λ z. omega arith))

-- ---- BEGIN's ticket

-- BEGIN's ticket is one more of them.
tickets-more : {ts : List ℕ} {ks : List Ticket} (k : Ticket) → Tickets ts ks → Tickets (ts ++ suc (length ks) ∷ []) (ks ++ k ∷ [])
tickets-more {ts = ts} {ks = ks} new T = record {
  there = λ k o h. elim (lt-or-le k (suc (length ts))) [
    | inl q ↦
        let b = is-there ks (nth 0 ts k) (T.there k o (omega arith)) in
        rw (nth-append 0 ts (x ∷ []) k (omega arith)) (there-is (ks ++ new ∷ []) (nth 0 ts k) b.0 (omega (arith, b.1, length-snoc ks new)))
    | inr q ↦ rw (last k (omega (arith, length-snoc ts x))) (there-is (ks ++ new ∷ []) x (omega arith) (omega (arith, length-snoc ks new)))
  ];
  once = λ j k o h p q e. elim (lt-or-le j (suc (length ts))) [
    | inl a ↦ elim (lt-or-le k (suc (length ts))) [
      | inl b ↦ T.once j k o (omega arith) p (omega arith) (sym (nth-append 0 ts (x ∷ []) j (omega arith)) ∙ e ∙ nth-append 0 ts (x ∷ []) k (omega arith))
      | inr b ↦ absurd (omega (arith, nth-append 0 ts (x ∷ []) j (omega arith), e, last k (omega (arith, length-snoc ts x)), ticket-upto T j))
    ]
    | inr a ↦ elim (lt-or-le k (suc (length ts))) [
      | inl b ↦ absurd (omega (arith, nth-append 0 ts (x ∷ []) k (omega arith), e, last j (omega (arith, length-snoc ts x)), ticket-upto T k))
      | inr b ↦ omega (arith, length-snoc ts x)
    ]
  ];
}
  where
    x : ℕ
    x = suc (length ks)

    last : (k : ℕ) → k ≡ suc (length ts) → nth 0 (ts ++ x ∷ []) k ≡ x
    last k e = rw e (nth-new 0 ts x)

module _ (L : Limits) {l l' : ℕ} {ts ts' : List ℕ} {m m' : Model} (M : Match l l' ts ts' m m') where
  -- SETWINDOWS: the same text is refused in both, or gives both the same windows.
  pub twin-windows : (x : List ℕ) → Step l l' ts ts' m m' 0 0 (on_model L m (SETWINDOWS x)) (on_model L m' (SETWINDOWS x))
  unfolding on_model unless
  twin-windows x =
      twin l l' m m' (λ r r'. Match l l' ts ts' (unless r m (with_windows L m x)) (unless r' m' (with_windows L m' x))) (text_number x) (text_number x) windows_done windows_done
      (elim [ ]) (elim [ ]) (alike refl) (λ k k'. M) λ z z'. (record { matched = M.matched; own = M.own; lines = M.lines; windows = refl }, word (elim [ ]))

  module _ (S : Kept L m) (S' : Kept L m') where
    -- ---- BEGIN
    module _ (n : ℕ) where
      match-begun : Match l l' (ts ++ suc (length m.tickets) ∷ []) (ts' ++ suc (length m'.tickets) ∷ []) (with_ticket L m n) (with_ticket L m' n)
      match-begun =
          let T = M.matched.tickets in
          let T' = M.matched.tickets' in
          let x = suc (length m.tickets) in
          let x' = suc (length m'.tickets) in
          record {
            matched = record {
              tickets = tickets-more (empty_ticket L m n) T;
              tickets' = tickets-more (empty_ticket L m' n) T';
              count = omega (arith, length-snoc ts x, length-snoc ts' x', M.matched.count);
              slots = nth-snocs (λ t. (ticket_in (with_ticket L m n) t).slots) (λ t. (ticket_in (with_ticket L m' n) t).slots) 0 0 ts ts' x x' M.matched.count
                  (ap (λ (k : Ticket). k.slots) (begun-new L m n ∙ sym (begun-new L m' n)))
                  (λ k. ap (λ (k : Ticket). k.slots) (begun-ticket L m n (nth 0 ts k) (ticket-upto T k)) ∙ M.matched.slots k
                  ∙ sym (ap (λ (k : Ticket). k.slots) (begun-ticket L m' n (nth 0 ts' k) (ticket-upto T' k))));
            };
            own = nth-snocs (own_number l m) (own_number l' m') 0 0 ts ts' x x' M.matched.count
                (own-nowhere l m x (ticket-past L m S x (omega arith)) ∙ sym (own-nowhere l' m' x' (ticket-past L m' S' x' (omega arith)))) M.own;
            lines = λ b b'. line-between (begun-line L m S l b n) (begun-line L m' S' l' b' n) (M.lines b b');
            windows = M.windows;
          }

      alike-begin : Alike l l' m m' 0 0 (begin_number L m n) (begin_number L m' n)
      unfolding first_refusal begin_rows holds
      alike-begin = alike-row l l' m m' (eqb n 0 || ltb 64 n) 4 (alike-fine l l' m m' (room m) (room m'))
        where
          room : (m : Model) → Fine (cond (leb L.updates (length m.tickets)) 5 (cond (ltb L.pages (pages_used m + n)) 6 0))
          room m = fine-row (leb L.updates (length m.tickets)) 4 refl
              (fine-row (ltb L.pages (pages_used m + n)) 5 refl (no-refusal refl))

      pub twin-begin : Step l l' (one_more L m n ts) (one_more L m' n ts') m m' 0 0 (on_model L m (BEGIN n)) (on_model L m' (BEGIN n))
      unfolding on_model unless
      twin-begin =
          let x = suc (length m.tickets) in
          let x' = suc (length m'.tickets) in
          twin l l' m m' (λ r r'. Match l l' (unless r ts (ts ++ x ∷ [])) (unless r' ts' (ts' ++ x' ∷ [])) (unless r m (with_ticket L m n)) (unless r' m' (with_ticket L m' n)))
          (begin_number L m n) (begin_number L m' n) (ticket_is x) (ticket_is x') (elim [ ]) (elim [ ]) alike-begin (λ k k'. M) λ z z'. (match-begun, ticket)

    -- ---- PUT and WEAVE
    module _ (t t' : ℕ) (P : Pair l l' ts ts' m m' t t') where
      -- Row 8 of a ticket that is to be unassigned, and the rows after it.
      pub alike-open : {r r' : ℕ} → Alike l l' m m' t t' r r' → Alike l l' m m' t t' (cond (not (eqb (ticket_update m t) 0)) 8 r) (cond (not (eqb (ticket_update m' t') 0)) 8 r')
      alike-open d = elim (assigned-cases M S S' P) [
        | inl e ↦ rw e (alike-row l l' m m' (not (eqb (ticket_update m' t') 0)) 8 d)
        | inr (inl e) ↦ rw (ne_eqb (ticket_update m t) 0 (elsewhere-line l m t e).0) (mine (omega arith) (assigned e))
        | inr (inr e) ↦ rw (ne_eqb (ticket_update m' t') 0 (elsewhere-line l' m' t' e).0) (yours (omega arith) (assigned e))
      ]

      alike-put : (i : ℕ) (bytes : List ℕ) → Alike l l' m m' t t' (put_number L m t i bytes) (put_number L m' t' i bytes)
      unfolding first_refusal put_rows holds
      alike-put i bytes = rw (P.there, P.slots) (alike-row l l' m m' (absent m'.tickets t') 7 (alike-open (alike refl)))

      -- The matched tickets other than these two are not these two.
      pub other-left : (j : ℕ) → 0 < t' → nth 0 ts j ≢ t → nth 0 ts' j ≢ t'
      other-left j o d q = let b = in-list-at ts' j (rw q o) in d (P.right j b.0 (omega (arith, b.1, M.matched.count)) q)

      pub these-two : (j : ℕ) → 0 < t → nth 0 ts j ≡ t → nth 0 ts' j ≡ t'
      these-two j o q = let b = in-list-at ts j (rw q o) in P.left j b.0 b.1 q

      -- A page more in both.
      match-put : (i : ℕ) (bytes : List ℕ) → PutPassed L m t i bytes → PutPassed L m' t' i bytes → Match l l' ts ts' (filled_at L m t i bytes) (filled_at L m' t' i bytes)
      match-put i bytes p p' =
          record {
            matched = record {
              tickets = tickets-stay _ (rw length-set (omega arith)) M.matched.tickets;
              tickets' = tickets-stay _ (rw length-set (omega arith)) M.matched.tickets';
              count = M.matched.count;
              slots = λ j. elim (ℕ_discrete (nth 0 ts j) t) [
                | yes q ↦
                    rw (q, these-two j p.from q, nth-set-same no_ticket m.tickets t (new m t) p.from p.upto, nth-set-same no_ticket m'.tickets t' (new m' t') p'.from p'.upto)
                    (ap (λ s. set s i (Some bytes)) P.slots)
                | no d ↦
                    rw (nth-set-other no_ticket m.tickets t (new m t) p.from (nth 0 ts j) d, nth-set-other no_ticket m'.tickets t' (new m' t') p'.from (nth 0 ts' j) (other-left j p'.from d))
                    (M.matched.slots j)
              ];
            };
            own = M.own;
            lines = λ b b'. line-between (filled-line L m S l b t i bytes p) (filled-line L m' S' l' b' t' i bytes p') (M.lines b b');
            windows = M.windows;
          }
        where
          new : Model → ℕ → Ticket
          new m t = with_slots (ticket_in m t) (set (ticket_in m t).slots i (Some bytes))

      pub twin-put : (i : ℕ) (bytes : List ℕ) → Step l l' ts ts' m m' t t' (on_model L m (PUT t i bytes)) (on_model L m' (PUT t' i bytes))
      unfolding on_model unless
      twin-put i bytes =
          twin l l' m m' (λ r r'. Match l l' ts ts' (unless r m (filled_at L m t i bytes)) (unless r' m' (filled_at L m' t' i bytes)))
          (put_number L m t i bytes) (put_number L m' t' i bytes) put_done put_done (elim [ ]) (elim [ ]) (alike-put i bytes) (λ k k'. M) λ z z'.
          (match-put i bytes (put-passed L m t i bytes z) (put-passed L m' t' i bytes z'), word (elim [ ]))

      -- WEAVE of a ticket that is assigned on this line, or not at all.
      module _ (on-line : elsewhere l m t ≡ false) (on-line' : elsewhere l' m' t' ≡ false) where
        own-too : 0 < ticket_update m t → Own l l' m m' t t'
        own-too o = own M S S' t t' P o (not-elsewhere l m t on-line o)

        -- Then both lines have begun.
        both-begun : 0 < ticket_update m t → SameLine (history m l) (history m' l')
        both-begun o =
            let w = own-too o in
            M.lines (rw (not-elsewhere l m t on-line o) at (update-got L m S t o).line) (rw w.line at (update-got L m' S' t' w.assigned).line)

        weave-same : weave_number L m t ≡ weave_number L m' t'
        weave-same = weave-alike t t' (length m.tickets) (length m'.tickets) (ticket_update m t) (ticket_update m' t') _ _ _ _ P.there
            (λ o. let w = own-too o in (w.assigned, w.woven, ap count_of w.update))
            (λ o. mine-back M S S' P o (not-elsewhere l' m' t' on-line' o))

        node-same : WeavePassed m t → WeavePassed m' t' → SameAnswer l l' m m' t t' (node_answer L m t) (node_answer L m' t')
        node-same p p' =
            let o = p.assigned in
            let w = own-too o in
            subst₂ (SameAnswer l l' m m' t t') (sym (node-first L m S t p)) (sym (node-first L m' S' t' p'))
            (node_alike l l' m m' t t' (updates-same (both-begun o)) (version_of m t).line (version_of m' t').line _ _ _ _ _ _
            (not-elsewhere l m t on-line o) w.line w.number w.update w.woven)

        match-woven : WeavePassed m t → WeavePassed m' t' → Match l l' ts ts' (woven L m t) (woven L m' t')
        match-woven p p' =
            let o = p.assigned in
            let w = own-too o in
            record {
              matched = record {
                tickets = tickets-stay _ (rw length-set (omega arith)) M.matched.tickets;
                tickets' = tickets-stay _ (rw length-set (omega arith)) M.matched.tickets';
                count = M.matched.count;
                slots = λ k. pages m t p (nth 0 ts k) ∙ M.matched.slots k ∙ sym (pages m' t' p' (nth 0 ts' k));
              };
              own = M.own;
              lines = λ b b'.
                  let X = M.lines b b' in
                  record {
                    count = X.count;
                    versions = λ v.
                        let x = version_at (history m l) v in
                        let x' = version_at (history m' l') v in
                        ap (λ s. record { f = x.f; size = x.size; slots = s }) (pages m t p x.ticket)
                        ∙ X.versions v
                        ∙ sym (ap (λ s. record { f = x'.f; size = x'.size; slots = s }) (pages m' t' p' x'.ticket));
                    woven = λ v. elim (ℕ_discrete v (version_of m t).number) [
                      | yes q ↦
                          one-more m l t p S o (not-elsewhere l m t on-line o) v q
                          ∙ ap suc w.woven
                          ∙ sym (one-more m' l' t' p' S' w.assigned w.line v (q ∙ w.number))
                      | no d ↦ as-far m l t p S b v (λ q. d (sym q)) ∙ X.woven v ∙ sym (as-far m' l' t' p' S' b' v (λ q. d (sym (w.number ∙ q))))
                    ];
                    published = X.published;
                  };
              windows = M.windows;
            }
          where
            pages : (m : Model) (t : ℕ) → WeavePassed m t → (u : ℕ) → (ticket_in (woven L m t) u).slots ≡ (ticket_in m u).slots
            pages m t p u = nth-set-field no_ticket m.tickets t _ p.from (λ (x : Ticket). x.slots) u refl

            -- The version of the ticket has one node more; any other has as many.
            one-more : (m : Model) (l t : ℕ) → WeavePassed m t → Kept L m → 0 < ticket_update m t → (version_of m t).line ≡ l → (v : ℕ) → v ≡ (version_of m t).number
                → woven_at (history (woven L m t) l) v ≡ suc (ticket_in m t).woven
            one-more m l t p S o e v q =
                ap (λ (u : ℕ). (ticket_in (woven L m t) u).woven) (ap (λ (v : ℕ). (version_at (history m l) v).ticket) q ∙ ap (λ (x : Version). x.ticket) (own_is l m t S o e) ∙ update-ticket m t o)
                ∙ ap (λ (x : Ticket). x.woven) (nth-set-same no_ticket m.tickets t _ p.from p.upto)

            as-far : (m : Model) (l t : ℕ) → WeavePassed m t → Kept L m → l < length m.lines → (v : ℕ) → (version_of m t).number ≢ v
                → woven_at (history (woven L m t) l) v ≡ woven_at (history m l) v
            as-far m l t p S b v d =
                ap (λ (x : Ticket). x.woven) (nth-set-other no_ticket m.tickets t _ p.from (version_at (history m l) v).ticket (λ e. d (shows-number S l b v t p.from e)))

        pub twin-weave : Step l l' ts ts' m m' t t' (on_model L m (WEAVE t)) (on_model L m' (WEAVE t'))
        unfolding on_model unless
        twin-weave =
            twin l l' m m' (λ r r'. Match l l' ts ts' (unless r m (woven L m t)) (unless r' m' (woven L m' t')))
            (weave_number L m t) (weave_number L m' t') (node_answer L m t) (node_answer L m' t') (elim [ ]) (elim [ ]) (alike weave-same) (λ k k'. M) λ z z'.
            let p = weave-passed L m t z in
            let p' = weave-passed L m' t' z' in
            (match-woven p p', node-same p p')
