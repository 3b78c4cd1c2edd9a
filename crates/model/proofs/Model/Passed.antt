-- What the rows of a call, passed, say of the model: the facts that number 0 gives.
-- Assumes nothing.
use Rattle.std.proofs.Common.{Option, None, Some}
use mathlib.Core.Path.{◌≡◌, refl, ap}
use mathlib.Core.Logic.{◌⊎◌, inl, inr}
use mathlib.Core.Bool.{true, and-eq-true_iff}
use mathlib.Core.List.{List}
use Prim.Native.Nat.{ℕ, suc, ◌+◌, ◌*◌, ◌≤◌, ◌<◌, zero}
use native.Mathlib.Omega.{arith}
use borrow.Author.Tests.{ltb-true, not-false}
use lib.Dec.{ltb}
use lib.ListN.{length, get_or}
use Rattle.tree.specs.Tree.{count_of}
use Rattle.table.specs.Table.{begin_rows, put_rows, weave_rows}
use Rattle.table.specs.Table.{publish_rows, branch_rows, assign_rows, size_rows, read_rows, page_rows}
use Rattle.table.proofs.Table.{passed}
use Rattle.model.specs.Calls.{refused, line_is, stamp_is, says, answers}
use Rattle.model.specs.History.{Page, History, pages_of, version_at, to_update, blob_size, is_filled, bit_if, all_filled, complete, due}
use Rattle.model.specs.Model.{Limits, Model, line_at, update_at, history, ticket_update}
use Rattle.model.specs.Layout.{nodes_used, pages_used}
use Rattle.model.specs.OnModel.{ticket_in, begin_number, put_number, weave_number, next_update, assign_number, publish_number, branch_number, read_number, size_number, page_number}

-- A row that reads a record: in the model the record is there.
there-fails : {A : Type 0} → (0 < 0) ⊎ A → A
there-fails (inl h) = absurd (omega arith)
there-fails (inr a) = a

unfilled : (x : Option Page) → (bit_if (is_filled x) ≡ 1 → ⊥) → x ≡ None
unfilled None h = refl
unfilled (Some x) h = absurd (h refl)

pub record BeginPassed (L : Limits) (m : Model) (n : ℕ) : Type 0 where
  pub some-pages : 0 < n
  pub few : n ≤ 64
  pub record-left : length m.tickets < L.updates
  pub pages-left : pages_used m + n ≤ L.pages

pub record PutPassed (L : Limits) (m : Model) (t i : ℕ) (bytes : List ℕ) : Type 0 where
  pub from : 0 < t
  pub upto : t ≤ length m.tickets
  pub unassigned : ticket_update m t ≡ 0
  pub slot : i < pages_of (ticket_in m t)
  pub empty : get_or (ticket_in m t).slots i None ≡ None
  pub whole : length bytes ≡ L.size

pub record WeavePassed (m : Model) (t : ℕ) : Type 0 where
  pub from : 0 < t
  pub upto : t ≤ length m.tickets
  pub assigned : 0 < ticket_update m t
  pub left : (ticket_in m t).woven < count_of (to_update m.tickets (update_at m (ticket_update m t)))

pub record AssignPassed (L : Limits) (m : Model) (l t f : ℕ) : Type 0 where
  pub from : 0 < t
  pub upto : t ≤ length m.tickets
  pub unassigned : ticket_update m t ≡ 0
  pub line : l < length m.lines
  pub puts : all_filled (ticket_in m t).slots ≡ true
  pub starts : f ≤ blob_size (history m l)
  pub inside : f + pages_of (ticket_in m t) ≤ 4096
  pub nodes-left : nodes_used m + count_of (next_update L m l t f) ≤ L.nodes

pub record PublishPassed (m : Model) (l minute : ℕ) : Type 0 where
  pub line : l < length m.lines
  pub accepted : minute ≤ 10079

pub record BranchPassed (m : Model) (l v : ℕ) : Type 0 where
  pub line : l < length m.lines
  pub published : v ≤ (line_at m l).published
  pub line-left : length m.lines < 16

pub record ReadPassed (L : Limits) (m : Model) (l v offset len : ℕ) (buffer : List ℕ) : Type 0 where
  pub line : l < length m.lines
  pub published : v ≤ (line_at m l).published
  pub inside : offset + len ≤ L.size * (version_at (history m l) v).size
  pub fits : len ≤ length buffer

pub record SizePassed (m : Model) (l v : ℕ) : Type 0 where
  pub line : l < length m.lines
  pub published : v ≤ (line_at m l).published

pub record PagePassed (m : Model) (l v p : ℕ) : Type 0 where
  pub line : l < length m.lines
  pub published : v ≤ (line_at m l).published
  pub inside : p < (version_at (history m l) v).size

pub record Due (h : History) : Type 0 where
  pub left : h.published < length h.versions
  pub whole : complete h (suc h.published) ≡ true

module _ (L : Limits) (m : Model) where
  pub begin-passed : (n : ℕ) → begin_number L m n ≡ 0 → BeginPassed L m n
  unfolding begin_rows
  begin-passed n e =
      let r = passed _ tt e in
      record { some-pages = omega arith; few = omega arith; record-left = omega arith; pages-left = omega arith }

  pub put-passed : (t i : ℕ) (bytes : List ℕ) → put_number L m t i bytes ≡ 0 → PutPassed L m t i bytes
  unfolding put_rows
  put-passed t i bytes e =
      let r = passed _ tt e in
      record {
        from = omega arith;
        upto = omega arith;
        unassigned = there-fails r.1.0;
        slot = there-fails r.1.1.0;
        empty = unfilled (get_or (ticket_in m t).slots i None) (there-fails r.1.1.1.0);
        whole = r.1.1.1.1.0;
      }

  pub weave-passed : (t : ℕ) → weave_number L m t ≡ 0 → WeavePassed m t
  unfolding weave_rows
  weave-passed t e =
      let r = passed _ tt e in
      let z : (ticket_update m t ≡ 0 → ⊥) = there-fails r.1.0.0 in
      record {
        from = omega arith;
        upto = omega arith;
        assigned = omega arith;
        left = there-fails (there-fails r.1.0.1);
      }

  pub assign-passed : (l t f : ℕ) → assign_number L m l t f ≡ 0 → AssignPassed L m l t f
  unfolding assign_rows
  assign-passed l t f e =
      let r = passed _ tt e in
      record {
        from = omega arith;
        upto = omega arith;
        unassigned = there-fails r.1.0;
        line = r.1.1.0;
        puts = not-false _ (there-fails r.1.1.1.0);
        starts = r.1.1.1.1.0;
        inside = there-fails r.1.1.1.1.1.0;
        nodes-left = there-fails r.1.1.1.1.1.1.0;
      }

  pub publish-passed : (l minute : ℕ) → publish_number L m l minute ≡ 0 → PublishPassed m l minute
  unfolding publish_rows
  publish-passed l minute e =
      let r = passed _ tt e in
      record { line = r.0; accepted = r.1.0 }

  pub branch-passed : (l v : ℕ) → branch_number L m l v ≡ 0 → BranchPassed m l v
  unfolding branch_rows
  branch-passed l v e =
      let r = passed _ tt e in
      record { line = r.0; published = r.1.0; line-left = r.1.1.0 }

  pub size-passed : (l v : ℕ) → size_number L m l v ≡ 0 → SizePassed m l v
  unfolding size_rows
  size-passed l v e =
      let r = passed _ tt e in
      record { line = r.0; published = r.1.0 }

  pub read-passed : (l v offset len : ℕ) (buffer : List ℕ) → read_number L m l v offset len buffer ≡ 0 → ReadPassed L m l v offset len buffer
  unfolding read_rows
  read-passed l v offset len buffer e =
      let r = passed _ tt e in
      record { line = r.0; published = r.1.0; inside = there-fails r.1.1.0; fits = r.1.1.1.0 }

  pub page-passed : (l v p : ℕ) → page_number L m l v p ≡ 0 → PagePassed m l v p
  unfolding page_rows
  page-passed l v p e =
      let r = passed _ tt e in
      record { line = r.0; published = r.1.0; inside = there-fails r.1.1.0 }

pub due-passed : (h : History) → due h ≡ true → Due h
unfolding due
due-passed h e =
    let r = (and-eq-true_iff (ltb h.published (length h.versions)) _).0 e in
    record { left = ltb-true _ _ r.0; whole = r.1 }

-- An answer that is a new line's number was not refused, and is that number.
pub line-answered : (r n k : ℕ) → says (answers r (line_is n)) ≡ says (line_is k) → (r ≡ 0) × (n ≡ k)
line-answered zero n k e = let q : line_is n ≡ line_is k = ap (λ o. o.answer) e in (refl, cc)
line-answered (suc r) n k e = let q : refused (suc r) ≡ line_is k = ap (λ o. o.answer) e in let z : ◌≡◌ {A = ℕ} 0 1 = cc in absurd (omega arith)

-- An answer that is a stamp was not refused, and is that stamp.
pub stamp-answered : (r n k : ℕ) → says (answers r (stamp_is n)) ≡ says (stamp_is k) → (r ≡ 0) × (n ≡ k)
stamp-answered zero n k e = let q : stamp_is n ≡ stamp_is k = ap (λ o. o.answer) e in (refl, cc)
stamp-answered (suc r) n k e = let q : refused (suc r) ≡ stamp_is k = ap (λ o. o.answer) e in let z : ◌≡◌ {A = ℕ} 0 1 = cc in absurd (omega arith)
