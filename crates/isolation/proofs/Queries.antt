-- One query in two matched states: it moves nothing, and gives back the same where both lines have begun.
-- Assumes nothing.
use mathlib.Core.Path.{◌≡◌, refl, ap₂, subst}
use mathlib.Core.Logic.{inl, inr}
use mathlib.Core.Bool.{true, false}
use mathlib.Core.List.{List, [], ◌++◌}
use Prim.Native.Nat.{ℕ, zero, suc, ◌*◌}
use borrow.Author.Tests.{le-leb, lt-leb}
use lib.Dec.{leb}
use lib.ListN.{length, get_or, take, drop}
use Rattle.tree.proofs.Meets.{lt-or-le}
use Rattle.table.specs.Table.{holds, first_refusal, unless, line_rows, size_rows, read_rows, page_rows}
use Rattle.model.specs.Calls.{ask, Query, read, size, recent, stamp, view, Answer, filled, size_is, recent_is, stamp_is, part_is, says, answers}
use Rattle.model.specs.InTurn.{joined}
use Rattle.model.specs.Model.{Limits, Model, history}
use Rattle.model.specs.OnModel.{line_number, read_number, size_number, page_number, model_outcome, on_line}
use Rattle.isolation.specs.Isolation.{SameLine, Match, Excused, by_list, not_begun, Numbered, word, Same}
use Rattle.isolation.proofs.Alike.{size_same, pages-same, stamp-same}
use Rattle.isolation.proofs.Refusals.{Step}

-- A refusal tells no number.
not-numbered : (r : ℕ) {a : Answer} → (Numbered a → ⊥) → Numbered (answers r a) → ⊥
not-numbered zero f = f
not-numbered (suc r) f = elim [ ]

module _ (L : Limits) (m : Model) (l : ℕ) where
  -- No answer tells a number which is matched.
  pub no_number : (q : Query) → Numbered (model_outcome L m l q).answer → ⊥
  unfolding model_outcome
  no_number (read v offset len buffer) = not-numbered (read_number L m l v offset len buffer) (elim [ ])
  no_number (size v) = not-numbered (size_number L m l v) (elim [ ])
  no_number recent = not-numbered (line_number L m l) (elim [ ])
  no_number (stamp v p) = not-numbered (page_number L m l v p) (elim [ ])
  no_number (view v p) = elim [ ]

  -- Of a line that has not begun the answer is excused.
  excused : (q : Query) → leb (length m.lines) l ≡ true → Excused l m 0 (model_outcome L m l q).answer
  unfolding model_outcome first_refusal holds unless line_rows size_rows read_rows page_rows
  excused (read v offset len buffer) e = rw e (by_list refl)
  excused (size v) e = rw e (by_list refl)
  excused recent e = rw e (by_list refl)
  excused (stamp v p) e = rw e (by_list refl)
  excused (view v p) e = rw e (not_begun e)

-- Lines that have begun and show the same.
module _ (L : Limits) (l l' : ℕ) (m m' : Model) (X : SameLine (history m l) (history m' l'))
    (b : leb (length m.lines) l ≡ false) (b' : leb (length m'.lines) l' ≡ false) where
  page-same : (v p : ℕ) → page_number L m l v p ≡ page_number L m' l' v p
  unfolding first_refusal page_rows holds
  page-same v p = rw (b, b', X.published, size_same X v)

  outcome-same : (q : Query) → model_outcome L m l q ≡ model_outcome L m' l' q
  unfolding model_outcome first_refusal holds line_rows size_rows read_rows
  outcome-same (read v offset len buffer) =
      let r : read_number L m l v offset len buffer ≡ read_number L m' l' v offset len buffer = rw (b, b', X.published, size_same X v) in
      ap₂ (λ k pages. record { answer = answers k filled; buffer = unless k buffer (take len (drop offset (joined pages)) ++ drop len buffer) }) r (pages-same X v)
  outcome-same (size v) =
      let r : size_number L m l v ≡ size_number L m' l' v = rw (b, b', X.published) in
      ap₂ (λ k n. says (answers k (size_is (L.size * n)))) r (size_same X v)
  outcome-same recent =
      let r : line_number L m l ≡ line_number L m' l' = rw (b, b') in
      ap₂ (λ k v. says (answers k (recent_is v))) r X.published
  outcome-same (stamp v p) = ap₂ (λ k w. says (answers k (stamp_is w))) (page-same v p) (stamp-same X v p)
  outcome-same (view v p) = ap₂ (λ k pages. says (part_is (unless k [] (get_or pages p [])))) (page-same v p) (pages-same X v)

pub twin-query : (L : Limits) {l l' : ℕ} {ts ts' : List ℕ} {m m' : Model} → Match l l' ts ts' m m' → (q : Query)
    → Step l l' ts ts' m m' 0 0 (on_line L m l (ask q)) (on_line L m' l' (ask q))
unfolding on_line
twin-query L {l = l} {l' = l'} {m = m} {m' = m'} M q = (
  elim (lt-or-le l (length m.lines)) [
    | inl b ↦ elim (lt-or-le l' (length m'.lines)) [
      | inl b' ↦
          let e = outcome-same L l l' m m' (M.lines b b') (lt-leb (length m.lines) l b) (lt-leb (length m'.lines) l' b') q in
          inl (subst (Same l l' m m' 0 0 (model_outcome L m l q)) e (word (no_number L m l q), refl))
      | inr h ↦ inr (inr (excused L m' l' q (le-leb (length m'.lines) l' h)))
    ]
    | inr h ↦ inr (inl (excused L m l q (le-leb (length m.lines) l h)))
  ],
  λ s. M,
)
