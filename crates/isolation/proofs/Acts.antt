-- One call on a line, other than a query, in two matched states.
-- Assumes nothing.
use mathlib.Core.Path.{◌≡◌, refl, sym, ap, ap₂, subst, ◌∙◌}
use mathlib.Core.Logic.{inl, inr}
use mathlib.Core.Bool.{Bool, true, false, not, cond}
use mathlib.Core.List.{List}
use Prim.Native.Nat.{ℕ, suc, ◌+◌, ◌<◌, max}
use native.Mathlib.Decide.{ℕ_discrete}
use native.Mathlib.Omega.{arith}
use borrow.Author.Tests.{le-leb, lt-leb}
use lib.Dec.{leb, ltb}
use lib.ListN.{length}
use Rattle.tree.specs.Tree.{nth, count_of}
use Rattle.tree.proofs.Meets.{lt-or-le}
use Rattle.table.specs.Table.{holds, first_refusal, unless}
use Rattle.table.specs.Table.{publish_rows, branch_rows, assign_rows}
use Rattle.windows.specs.Windows.{inside_some}
use Rattle.model.specs.Calls.{WRITE, APPEND, PUBLISH, BRANCH, version_is, published_is, waiting, held, line_is}
use Rattle.model.specs.History.{Version, no_version, ticket_at, pages_of, blob_size, all_filled, due}
use Rattle.model.specs.Model.{Limits, Model, line_at, history}
use Rattle.model.specs.Layout.{nodes_used}
use Rattle.model.specs.OnModel.{ticket_in, either, publish_number, published, branch_number, branched, size_after, next_version, next_update, assign_number, assigned as with_assigned, assign_step, on_line}
use Rattle.model.proofs.Lists.Nth.{length-snoc}
use Rattle.model.proofs.Model.Passed.{AssignPassed, assign-passed, publish-passed, branch-passed}
use Rattle.model.proofs.Model.Shown.{versions-length}
use Rattle.model.proofs.Calls.Histories.{published-history, assigned-history}
use Rattle.isolation.specs.Isolation.{own_number, absent, Written, SameLine, Match, by_list, SameAnswer, word, line}
use Rattle.isolation.proofs.Lists.{nth-snocs}
use Rattle.isolation.proofs.Kept.{Kept}
use Rattle.isolation.proofs.Match.{line-by, line-between, match-sym, match-framed}
use Rattle.isolation.proofs.Tickets.{Pair}
use Rattle.isolation.proofs.Frame.{own-other, own_new, frame-branched}
use Rattle.isolation.proofs.Alike.{blob-same, due-same}
use Rattle.isolation.proofs.Refusals.{IsRefusal, no-refusal, fine-row, Alike, alike, mine, yours, alike-row, alike-fine, twin, Step}
use Rattle.isolation.proofs.Calls.{alike-open, other-left, these-two}

-- PUBLISH's answers are no refusals.
not-refused : (h d : Bool) (v : ℕ) → IsRefusal (either h held (either d (published_is v) waiting)) → ⊥
not-refused true d v = elim [ ]
not-refused false true v = elim [ ]
not-refused false false v = elim [ ]

module _ (L : Limits) {l l' : ℕ} {ts ts' : List ℕ} {m m' : Model} (M : Match l l' ts ts' m m') where
  -- Row 20, and the rows after it: these are alike where both lines have begun.
  alike-line : {t t' r r' : ℕ} → (l < length m.lines → l' < length m'.lines → Alike l l' m m' t t' r r')
      → Alike l l' m m' t t' (cond (leb (length m.lines) l) 20 r) (cond (leb (length m'.lines) l') 20 r')
  alike-line f = elim (lt-or-le l (length m.lines)) [
    | inl b ↦ elim (lt-or-le l' (length m'.lines)) [
      | inl b' ↦ rw (lt-leb (length m.lines) l b, lt-leb (length m'.lines) l' b') (f b b')
      | inr h ↦ rw (le-leb (length m'.lines) l' h) (yours (omega arith) (by_list refl))
    ]
    | inr h ↦ rw (le-leb (length m.lines) l h) (mine (omega arith) (by_list refl))
  ]

  -- ---- BRANCH
  alike-branch : (v : ℕ) → Alike l l' m m' 0 0 (branch_number L m l v) (branch_number L m' l' v)
  unfolding first_refusal branch_rows holds
  alike-branch v = alike-line λ b b'. rw (M.lines b b').published
      (alike-row l l' m m' (ltb (line_at m' l').published v) 16 (alike-fine l l' m m'
      (fine-row (leb 16 (length m.lines)) 20 refl (no-refusal refl)) (fine-row (leb 16 (length m'.lines)) 20 refl (no-refusal refl))))

  pub twin-branch : Kept L m → Kept L m' → (v : ℕ) → Step l l' ts ts' m m' 0 0 (on_line L m l (BRANCH v)) (on_line L m' l' (BRANCH v))
  unfolding on_line unless
  twin-branch S S' v =
      twin l l' m m' (λ r r'. Match l l' ts ts' (unless r m (branched L m l v)) (unless r' m' (branched L m' l' v)))
      (branch_number L m l v) (branch_number L m' l' v) (line_is (length m.lines)) (line_is (length m'.lines)) (elim [ ]) (elim [ ]) (alike-branch v) (λ k k'. M) λ z z'.
      let M' = match-framed (match-sym M) (frame-branched L l' ts' m' S' M.matched.tickets' l' v) (λ n. absurd (omega (arith, (branch-passed L m' l' v z').line))) in
      (match-framed (match-sym M') (frame-branched L l ts m S M.matched.tickets l v) (λ n. absurd (omega (arith, (branch-passed L m l v z).line))), line)

  -- ---- PUBLISH
  match-published : l < length m.lines → l' < length m'.lines → Match l l' ts ts' (published L m l) (published L m' l')
  match-published b b' =
      let X = M.lines b b' in
      record {
        matched = M.matched;
        own = M.own;
        lines = λ _ _. line-between (line-by (published-history L m l b)) (line-by (published-history L m' l' b'))
            (record { count = X.count; versions = X.versions; woven = X.woven; published = ap suc X.published });
        windows = M.windows;
      }

  -- By whether a version is due, and before that by whether the minute is inside a window: both are the same in the two states.
  match-due : l < length m.lines → l' < length m'.lines → (h h' d d' : Bool) → h ≡ h' → d ≡ d'
      → Match l l' ts ts' (either h m (either d (published L m l) m)) (either h' m' (either d' (published L m' l') m'))
      × SameAnswer l l' m m' 0 0
      (either h held (either d (published_is (suc (line_at m l).published)) waiting)) (either h' held (either d' (published_is (suc (line_at m' l').published)) waiting))
  match-due b b' h h' d d' e i = rw (e, i) (both h' d')
    where
      both : (h d : Bool) → Match l l' ts ts' (either h m (either d (published L m l) m)) (either h m' (either d (published L m' l') m'))
          × SameAnswer l l' m m' 0 0
          (either h held (either d (published_is (suc (line_at m l).published)) waiting)) (either h held (either d (published_is (suc (line_at m' l').published)) waiting))
      both true d = (M, word {a = held} (elim [ ]))
      both false true = (match-published b b', rw (M.lines b b').published (word {a = published_is (suc (line_at m' l').published)} (elim [ ])))
      both false false = (M, word {a = waiting} (elim [ ]))

  alike-publish : (minute : ℕ) → Alike l l' m m' 0 0 (publish_number L m l minute) (publish_number L m' l' minute)
  unfolding first_refusal publish_rows holds
  alike-publish minute = alike-line λ b b'. alike refl

  pub twin-publish : (minute : ℕ) → Step l l' ts ts' m m' 0 0 (on_line L m l (PUBLISH minute)) (on_line L m' l' (PUBLISH minute))
  unfolding on_line unless
  twin-publish minute =
      let d = due (history m l) in
      let d' = due (history m' l') in
      let h = inside_some m.windows minute in
      let h' = inside_some m'.windows minute in
      twin l l' m m' (λ r r'. Match l l' ts ts' (unless r m (either h m (either d (published L m l) m))) (unless r' m' (either h' m' (either d' (published L m' l') m'))))
      (publish_number L m l minute) (publish_number L m' l' minute) _ _
      (not-refused h d (suc (line_at m l).published)) (not-refused h' d' (suc (line_at m' l').published)) (alike-publish minute) (λ k k'. M) λ z z'.
      let b = (publish-passed L m l minute z).line in
      let b' = (publish-passed L m' l' minute z').line in
      match-due b b' h h' d d' (ap (λ ws. inside_some ws minute) M.windows) (due-same (M.lines b b'))

  -- ---- ASSIGN
  module _ (S : Kept L m) (S' : Kept L m') (t t' : ℕ) (P : Pair l l' ts ts' m m' t t') where
    module _ (X : SameLine (history m l) (history m' l')) (f : ℕ) where
      size-after : size_after L m l t f ≡ size_after L m' l' t' f
      size-after = ap₂ (λ b s. max b (f + length s)) (blob-same X) P.slots

      count_same : count_of (next_update L m l t f) ≡ count_of (next_update L m' l' t' f)
      count_same = rw (size-after, P.slots)

      next-same : ◌≡◌ {A = Written} (record { f = f; size = size_after L m l t f; slots = (ticket_in m t).slots }) (record { f = f; size = size_after L m' l' t' f; slots = (ticket_in m' t').slots })
      next-same = rw (size-after, P.slots)

    match-assigned : (f : ℕ) → AssignPassed L m l t f → AssignPassed L m' l' t' f → Match l l' ts ts' (with_assigned L m l t f) (with_assigned L m' l' t' f)
    match-assigned f p p' =
        let h = history m l in
        let h' = history m' l' in
        let x = next_version L m l t f in
        let x' = next_version L m' l' t' f in
        let X = M.lines p.line p'.line in
        let unwoven = (S.tickets t p.from p.upto).unwoven p.unassigned in
        let unwoven' = (S'.tickets t' p'.from p'.upto).unwoven p'.unassigned in
        record {
          matched = M.matched;
          own = λ k. elim (ℕ_discrete (nth 0 ts k) t) [
            | yes q ↦
                ap (own_number l (with_assigned L m l t f)) q ∙ own_new L m l t f p.unassigned ∙ ap suc (sym (versions-length m l) ∙ X.count ∙ versions-length m' l')
                ∙ sym (ap (own_number l' (with_assigned L m' l' t' f)) (these-two L M S S' t t' P k p.from q) ∙ own_new L m' l' t' f p'.unassigned)
            | no d ↦
                own-other L m l t f l (nth 0 ts k) d ∙ M.own k ∙ sym (own-other L m' l' t' f l' (nth 0 ts' k) (other-left L M S S' t t' P k p'.from d))
          ];
          lines = λ _ _. line-between (line-by (assigned-history L m S l t f p.line)) (line-by (assigned-history L m' S' l' t' f p'.line)) (record {
            count = length-snoc h.versions x ∙ ap suc X.count ∙ sym (length-snoc h'.versions x');
            versions = nth-snocs (λ (y : Version). record { f = y.f; size = y.size; slots = (ticket_at h y.ticket).slots })
                (λ (y : Version). record { f = y.f; size = y.size; slots = (ticket_at h' y.ticket).slots })
                no_version no_version h.versions h'.versions x x' X.count (next-same X f) X.versions;
            woven = nth-snocs (λ (y : Version). (ticket_at h y.ticket).woven) (λ (y : Version). (ticket_at h' y.ticket).woven)
                no_version no_version h.versions h'.versions x x' X.count (unwoven ∙ sym unwoven') X.woven;
            published = X.published;
          });
          windows = M.windows;
        }

    -- WRITE is given its first page, and APPEND's is the line's size, the same where both lines have begun.
    module _ (f f' : ℕ) (same : l < length m.lines → l' < length m'.lines → f ≡ f') where
      alike-assign : Alike l l' m m' t t' (assign_number L m l t f) (assign_number L m' l' t' f')
      unfolding first_refusal assign_rows holds
      alike-assign =
          rw P.there (alike-row l l' m m' (absent m'.tickets t') 7 (alike-open L M S S' t t' P (alike-line λ b b'.
          rw (same b b', count_same (M.lines b b') f', P.slots, blob-same (M.lines b b')) (
          alike-row l l' m m' (not (all_filled (ticket_in m' t').slots)) 12 (alike-row l l' m m' (ltb (blob_size (history m' l')) f') 13 (
          alike-row l l' m m' (ltb 4096 (f' + pages_of (ticket_in m' t'))) 14 (alike-fine l l' m m'
          (fine-row (ltb L.nodes (nodes_used m + count_of (next_update L m' l' t' f'))) 14 refl (no-refusal refl))
          (fine-row (ltb L.nodes (nodes_used m' + count_of (next_update L m' l' t' f'))) 14 refl (no-refusal refl))))
          )))))

      twin-assign : Step l l' ts ts' m m' t t' (assign_step L m l t f) (assign_step L m' l' t' f')
      unfolding unless
      twin-assign =
          twin l l' m m' (λ r r'. Match l l' ts ts' (unless r m (with_assigned L m l t f)) (unless r' m' (with_assigned L m' l' t' f')))
          (assign_number L m l t f) (assign_number L m' l' t' f') (version_is (suc (length (line_at m l).shown)) (count_of (next_update L m l t f)))
          (version_is (suc (length (line_at m' l').shown)) (count_of (next_update L m' l' t' f'))) (elim [ ]) (elim [ ]) alike-assign (λ k k'. M) λ z z'.
          let p = assign-passed L m l t f z in
          let p' = assign-passed L m' l' t' f' z' in
          let X = M.lines p.line p'.line in
          let e = same p.line p'.line in
          let n : length (line_at m l).shown ≡ length (line_at m' l').shown = sym (versions-length m l) ∙ X.count ∙ versions-length m' l' in (
            subst (λ g. Match l l' ts ts' (with_assigned L m l t g) (with_assigned L m' l' t' f')) (sym e) (match-assigned f' (subst (AssignPassed L m l t) e p) p'),
            rw (e, n, count_same X f') (word {a = version_is (suc (length (line_at m' l').shown)) (count_of (next_update L m' l' t' f'))} (elim [ ])),
          )

    pub twin-write : (f : ℕ) → Step l l' ts ts' m m' t t' (on_line L m l (WRITE t f)) (on_line L m' l' (WRITE t' f))
    unfolding on_line
    twin-write f = twin-assign f f (λ b b'. refl)

    pub twin-append : Step l l' ts ts' m m' t t' (on_line L m l (APPEND t)) (on_line L m' l' (APPEND t'))
    unfolding on_line
    twin-append = twin-assign (blob_size (history m l)) (blob_size (history m' l')) (λ b b'. blob-same (M.lines b b'))
