-- What the isolation of lines gives of two lists of calls. Assumes nothing.
use Rattle.std.proofs.Common.{Some}
use mathlib.Core.Path.{◌≡◌, refl, sym, ap, ◌∙◌}
use mathlib.Core.Bool.{false, false≢true}
use mathlib.Core.List.{List, [], ◌∷◌, ◌++◌, map}
use Prim.Native.Nat.{ℕ, zero, suc, ◌≤◌, ◌<◌}
use native.Mathlib.Omega.{arith}
use lib.Dec.{leb}
use lib.ListN.{length}
use Rattle.tree.specs.Tree.{nth}
use Rattle.model.specs.Calls.{Call, BEGIN, PUT, WEAVE, on, WRITE, APPEND, BRANCH, ask, Query, read, size, recent, stamp, view, refused, line_is, Outcome, says}
use Rattle.model.specs.History.{Page, Ticket, Version, no_ticket, with_slots, with_woven, version_by}
use Rattle.model.specs.Model.{Model, history, update_from, Line, no_model, line_from, with_published, with_tickets, with_updates, with_lines}
use Rattle.model.specs.OnModel.{ticket_in, on_model}
use Rattle.model.specs.Run.{run, model_after}
use Rattle.model.specs.Example.{computes, page_of}
use Rattle.model.specs.Stamps.{sends}
use Rattle.versions.specs.Store.{Areas}
use Rattle.isolation.specs.Isolation.{among, absent, own_number, written_at, woven_at, Tickets, Matched, Match, SameUpTo, kth, SameCall, put, weave, write, append, query, new_ticket, other_put, other_weave, other_line, new_line, Twins, end, second, begin, both, Agree, IsolatedBy}
use Rattle.demands.specs.Demands.{Accepted}
use Rattle.demands.proofs.Demanded.{as-model, isolated}
use Rattle.uses.specs.Accepted.{limits}
use Rattle.uses.specs.Isolated.{shared, alone, beside, opened, opened_beside, gives, FromFormat, ReadAlike, Unreached, Woven, BegunAlike}
use Rattle.uses.proofs.Agreed.{Clear, excused-number, query-clear, outcome, is_same, agreed, all_own, root-same, leaf-moved}

-- ---- matched states, by computation

-- One ticket.
lone : (t : ℕ) (ks : List Ticket) → absent ks t ≡ false → Tickets (t ∷ []) ks
lone t ks e = record { there = there; once = λ j k o h p q e. omega arith }
  where
    there : (k : ℕ) → 0 < k → k ≤ 1 → absent ks (nth 0 (t ∷ []) k) ≡ false
    there zero o h = absurd (omega arith)
    there (suc zero) o h = e
    there (suc (suc k)) o h = absurd (omega arith)

-- A ticket with these pages put, and so many nodes woven.
abbrev with_pages : List Page → ℕ → Ticket
with_pages pages n = with_woven (with_slots no_ticket (map Some pages)) n

-- A model of these tickets, updates and lines, with no windows.
abbrev model_of : List Ticket → List Version → List Line → Model
model_of ks us ls = with_lines (with_updates (with_tickets no_model ks) us) ls

-- The model when line 0 is alone, and when it is beside a planner.
unfoldable model_alone : Model
model_alone =
    model_of
    (with_pages (page_of 10 ∷ page_of 11 ∷ []) 3 ∷ with_pages (page_of 21 ∷ []) 2 ∷ with_pages (page_of 30 ∷ []) 0 ∷ [])
    (version_by 1 0 1 0 2 ∷ version_by 2 0 2 1 2 ∷ [])
    (with_published (line_from 0 0 (1 ∷ 2 ∷ [])) 2 ∷ [])

unfoldable model_beside : Model
model_beside =
    model_of
    (with_pages (page_of 10 ∷ page_of 11 ∷ []) 3
    ∷ with_pages (page_of 90 ∷ page_of 91 ∷ page_of 92 ∷ []) 6
    ∷ with_pages (page_of 21 ∷ []) 2
    ∷ with_pages (page_of 93 ∷ []) 3
    ∷ with_pages (page_of 30 ∷ []) 0
    ∷ [])
    (version_by 1 0 1 0 2 ∷ version_by 2 1 2 0 3 ∷ version_by 3 0 2 1 2 ∷ version_by 4 1 3 3 4 ∷ [])
    (with_published (line_from 0 0 (1 ∷ 3 ∷ [])) 2 ∷ with_published (line_from 0 1 (1 ∷ 2 ∷ 4 ∷ [])) 3 ∷ [])

is-alone : model_after limits alone ≡ model_alone
unfolding computes run limits shared alone model_alone
is-alone = refl

is-beside : model_after limits beside ≡ model_beside
unfolding computes run limits shared beside model_beside
is-beside = refl

matched-models : Match 0 0 (3 ∷ []) (5 ∷ []) model_alone model_beside
unfolding model_alone model_beside update_from
matched-models = record {
  matched = record { tickets = lone 3 model_alone.tickets refl; tickets' = lone 5 model_beside.tickets refl; count = refl; slots = slots };
  own = own;
  lines = λ _ _. record { count = refl; versions = versions; woven = woven; published = refl };
  windows = refl;
}
  where
    slots : (k : ℕ) → (ticket_in model_alone (nth 0 (3 ∷ []) k)).slots ≡ (ticket_in model_beside (nth 0 (5 ∷ []) k)).slots
    slots zero = refl
    slots (suc zero) = refl
    slots (suc (suc k)) = refl

    own : (k : ℕ) → own_number 0 model_alone (nth 0 (3 ∷ []) k) ≡ own_number 0 model_beside (nth 0 (5 ∷ []) k)
    own zero = refl
    own (suc zero) = refl
    own (suc (suc k)) = refl

    versions : (v : ℕ) → written_at (history model_alone 0) v ≡ written_at (history model_beside 0) v
    versions zero = refl
    versions (suc zero) = refl
    versions (suc (suc zero)) = refl
    versions (suc (suc (suc v))) = refl

    woven : (v : ℕ) → woven_at (history model_alone 0) v ≡ woven_at (history model_beside 0) v
    woven zero = refl
    woven (suc zero) = refl
    woven (suc (suc zero)) = refl
    woven (suc (suc (suc v))) = refl

matched : Match 0 0 (3 ∷ []) (5 ∷ []) (model_after limits alone) (model_after limits beside)
matched = rw (is-alone, is-beside) matched-models

-- It shows the same version 1 before a planner, and when both have gone on.
same_first : SameUpTo 1 (history (model_after limits shared) 0) (history (model_after limits beside) 0)
unfolding computes run limits shared beside
same_first zero q = refl
same_first (suc zero) q = refl
same_first (suc (suc v)) q = absurd (omega arith)

same-windows : (model_after limits shared).windows ≡ (model_after limits beside).windows
unfolding computes run limits shared beside
same-windows = refl

-- From which lines 1 and 2 begin.
first-branch : (on_model limits (model_after limits shared) (on 0 (BRANCH 1))).1 ≡ says (line_is 1)
unfolding computes run limits shared
first-branch = refl

later-branch : (on_model limits (model_after limits beside) (on 0 (BRANCH 1))).1 ≡ says (line_is 2)
unfolding computes run limits shared beside
later-branch = refl

first-begun : leb (length (model_after limits (shared ++ on 0 (BRANCH 1) ∷ [])).lines) 1 ≡ false
unfolding computes run limits shared
first-begun = refl

later-begun : leb (length (model_after limits (beside ++ on 0 (BRANCH 1) ∷ [])).lines) 2 ≡ false
unfolding computes run limits shared beside
later-begun = refl

-- The first update of line 0, alone and after a planner's.
unfoldable twins : Twins limits 0 0 [] [] [] [] (opened ++ on 0 (APPEND 1) ∷ []) (opened_beside ++ on 0 (APPEND 2) ∷ [])
unfolding computes run limits opened opened_beside among
twins =
    second (new_line tt) (second new_ticket (second (other_put refl) (second (other_put refl) (second (other_line refl tt) (second (other_weave refl) (second (other_weave refl) (
    second (other_weave refl) (second (other_line refl tt) (begin 1 (both (put (kth 1) 0 (page_of 10)) (both (append (kth 1)) end)))))))))))

-- No tickets.
None : (ks : List Ticket) → Tickets [] ks
None ks = record { there = λ k o h. absurd (omega arith); once = λ j k o h p q e. absurd (omega arith) }

none-matched : (ks ks' : List Ticket) → Matched [] [] ks ks'
none-matched ks ks' = record { tickets = None ks; tickets' = None ks'; count = refl; slots = slots }
  where
    slots : (k : ℕ) → (nth no_ticket ks (nth 0 [] k)).slots ≡ (nth no_ticket ks' (nth 0 [] k)).slots
    slots zero = refl
    slots (suc k) = refl

module _ (a : Areas) (accepted : Accepted limits a) where
  by_lines : IsolatedBy limits (gives a)
  by_lines = isolated limits a accepted

  model : (cs : List Call) (c : Call) → gives a cs c ≡ (on_model limits (model_after limits cs) c).1
  model = as-model limits a accepted

  -- What a line gives back to one call in matched states.
  one : {l l' : ℕ} {ts ts' : List ℕ} (cs cs' : List Call) → Match l l' ts ts' (model_after limits cs) (model_after limits cs') → {t t' : ℕ} {c c' : Call}
      → SameCall l l' ts ts' (model_after limits cs) (model_after limits cs') t t' c c' → Clear l (model_after limits cs) t (on_model limits (model_after limits cs) c).1.answer
      → Clear l' (model_after limits cs') t' (on_model limits (model_after limits cs') c').1.answer → gives a cs c ≡ gives a cs' c'
  unfolding Agree
  one {l = l} {l' = l'} {ts = ts} {ts' = ts'} cs cs' M {c = c} {c' = c'} s f f' =
      agreed (model cs c) (model cs' c') f f' (by_lines.agree l l' ts ts' cs cs' M (c ∷ []) (c' ∷ []) (both s end)).0

  -- A line that has begun in both.
  read_alike : {l l' : ℕ} {ts ts' : List ℕ} (cs cs' : List Call) → Match l l' ts ts' (model_after limits cs) (model_after limits cs')
      → leb (length (model_after limits cs).lines) l ≡ false → leb (length (model_after limits cs').lines) l' ≡ false → ReadAlike a l l' cs cs'
  read_alike {l = l} {l' = l'} cs cs' M b b' =
      let m = model_after limits cs in
      let m' = model_after limits cs' in
      let same : (q : Query) → gives a cs (on l (ask q)) ≡ gives a cs' (on l' (ask q)) = λ q. one cs cs' M (query q) (query-clear l m b q) (query-clear l' m' b' q) in
      record {
        reads = λ v offset len buffer. same (read v offset len buffer);
        sizes = λ v. same (size v);
        recent = same recent;
        stamps = λ v p. same (stamp v p);
        views = λ v p. same (view v p);
      }

  pub unreached : Unreached a
  unfolding computes run limits shared alone beside
  unreached = record {
    read = read_alike alone beside matched refl refl;
    appends = one alone beside matched (append (kth 1)) (record { words = elim [ ]; fine = elim [ ] }) (record { words = elim [ ]; fine = elim [ ] });
    past = one alone beside matched (write (kth 1) 3) past past;
  }
    where
      past : {m : Model} {t : ℕ} → Clear 0 m t (refused 13)
      past = record { words = elim [ ]; fine = λ e. false≢true (excused-number e) }

  pub begun-alike : BegunAlike a
  begun-alike =
      let c = on 0 (BRANCH 1) in
      let M = by_lines.begins 0 0 [] [] shared beside (none-matched (model_after limits shared).tickets (model_after limits beside).tickets) same-windows 1 1 2 same_first
      (model shared c ∙ first-branch) (model beside c ∙ later-branch) in
      record { read = read_alike (shared ++ c ∷ []) (beside ++ c ∷ []) M first-begun later-begun }

  -- From FORMAT on: the answers to BEGIN and PUT are the same, and so is that to APPEND.
  pub from-format : FromFormat a
  unfolding computes run limits opened opened_beside among twins Agree
  from-format =
      let planned = on 0 (BRANCH 0) ∷ sends 1 1 0 (page_of 90 ∷ page_of 91 ∷ []) 3 in
      let x = by_lines.agree 0 0 [] [] [] [] (by_lines.itself 0 [] [] (None [])) (opened ++ on 0 (APPEND 1) ∷ []) (opened_beside ++ on 0 (APPEND 2) ∷ []) twins in
      let y = x.1 (is_same (model [] (BEGIN 1)) (model planned (BEGIN 1)) (elim [ ]) (elim [ ]) x.0) in
      let first = model (BEGIN 1 ∷ []) (PUT 1 0 (page_of 10)) in
      let second = model (planned ++ BEGIN 1 ∷ []) (PUT 2 0 (page_of 10)) in
      let z = y.1 (is_same first second (elim [ ]) (elim [ ]) y.0) in
      record {
        appends = agreed (model opened (on 0 (APPEND 1))) (model opened_beside (on 0 (APPEND 2)))
            (record { words = elim [ ]; fine = elim [ ] }) (record { words = elim [ ]; fine = elim [ ] }) z.0;
      }

  pub woven : Woven a
  unfolding computes run limits shared alone beside Agree all_own
  woven =
      let w : Twins limits 0 0 (3 ∷ []) (5 ∷ []) alone beside (on 0 (WRITE 3 1) ∷ WEAVE 3 ∷ WEAVE 3 ∷ []) (on 0 (WRITE 5 1) ∷ WEAVE 5 ∷ WEAVE 5 ∷ []) =
      both (write (kth 1) 1) (both (weave (kth 1) refl refl) (both (weave (kth 1) refl refl) end)) in
      let x = by_lines.agree 0 0 (3 ∷ []) (5 ∷ []) alone beside matched _ _ w in
      let y = x.1 (is_same (model alone (on 0 (WRITE 3 1))) (model beside (on 0 (WRITE 5 1))) (elim [ ]) (elim [ ]) x.0) in
      let first = model (alone ++ on 0 (WRITE 3 1) ∷ []) (WEAVE 3) in
      let s = is_same first (model (beside ++ on 0 (WRITE 5 1) ∷ []) (WEAVE 5)) (elim [ ]) (elim [ ]) y.0 in
      let z = y.1 s in
      let second = model (alone ++ on 0 (WRITE 3 1) ∷ WEAVE 3 ∷ []) (WEAVE 3) in
      let q = is_same second (model (beside ++ on 0 (WRITE 5 1) ∷ WEAVE 5 ∷ []) (WEAVE 5)) (elim [ ]) (elim [ ]) z.0 in
      record {
        root = outcome (root-same refl refl s.0 (ap (λ (o : Outcome). o.answer) first)) s.1;
        leaf = second;
        leaf_beside = outcome (leaf-moved refl refl 0 q.0 (ap (λ (o : Outcome). o.answer) second)) (sym q.1 ∙ ap (λ (o : Outcome). o.buffer) second);
      }
