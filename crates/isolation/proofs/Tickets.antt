-- Tickets: where one is assigned, and what two that mean the same have in common.
-- Assumes nothing.
use mathlib.Core.Path.{◌≡◌, refl, sym, ap, ◌∙◌}
use mathlib.Core.Logic.{◌⊎◌, inl, inr, ◌≢◌}
use mathlib.Core.Bool.{true, false, not, and-eq-true_iff, false≢true}
use mathlib.Core.List.{List}
use Prim.Native.Nat.{ℕ, zero, suc, ◌≤◌, ◌<◌}
use native.Mathlib.Decide.{ℕ_discrete}
use native.Mathlib.Omega.{arith}
use borrow.Author.Tests.{eqb-false, eq-eqb, ne_eqb, le-ltb, ltb-true, ltb-false, not-true}
use lib.Dec.{ltb, eqb}
use lib.ListN.{length}
use Rattle.tree.specs.Tree.{nth}
use Rattle.tree.proofs.Meets.{lt-or-le}
use Rattle.model.specs.History.{Ticket, no_ticket}
use Rattle.model.specs.Model.{Limits, Model, ticket_update}
use Rattle.model.specs.OnModel.{ticket_in}
use Rattle.model.proofs.Lists.Nth.{nth_past}
use Rattle.model.proofs.Model.Facts.{ticket-zero, ticket-past, update-got}
use Rattle.isolation.specs.Isolation.{version_of, here, elsewhere, own_number, absent, Tickets, Match, SameTicket, kth, neither}
use Rattle.isolation.proofs.Lists.{or_split}
use Rattle.isolation.proofs.Kept.{Kept}

-- ---- where a ticket is assigned

pub data Where (l : ℕ) (m : Model) (t : ℕ) : Type 0 where
  nowhere : ticket_update m t ≡ 0 → Where l m t
  mine : 0 < ticket_update m t → (version_of m t).line ≡ l → Where l m t
  away : 0 < ticket_update m t → (version_of m t).line ≢ l → Where l m t

module _ (l : ℕ) (m : Model) (t : ℕ) where
  pub where-is : Where l m t
  where-is = elim (lt-or-le 0 (ticket_update m t)) [
    | inl o ↦ elim (ℕ_discrete (version_of m t).line l) [ yes e ↦ mine o e | no n ↦ away o n ]
    | inr h ↦ nowhere (omega arith)
  ]

  pub elsewhere-line : elsewhere l m t ≡ true → (ticket_update m t ≢ 0) × ((version_of m t).line ≢ l)
  elsewhere-line e =
      let b = (and-eq-true_iff (not (eqb (ticket_update m t) 0)) (not (eqb (version_of m t).line l))).0 e in
      (eqb-false (ticket_update m t) 0 (not-true _ b.0), eqb-false (version_of m t).line l (not-true _ b.1))

  pub is-elsewhere : 0 < ticket_update m t → (version_of m t).line ≢ l → elsewhere l m t ≡ true
  is-elsewhere o n = rw (ne_eqb (ticket_update m t) 0 (λ z. omega arith), ne_eqb (version_of m t).line l n)

  pub not-elsewhere : elsewhere l m t ≡ false → 0 < ticket_update m t → (version_of m t).line ≡ l
  not-elsewhere e o = elim (ℕ_discrete (version_of m t).line l) [ yes q ↦ q | no n ↦ absurd (false≢true (sym e ∙ is-elsewhere o n)) ]

  pub not-here : here l m t ≡ false → 0 < ticket_update m t → (version_of m t).line ≢ l
  not-here e o q = false≢true (sym (rw (ne_eqb (ticket_update m t) 0 (λ z. omega arith), eq-eqb (version_of m t).line l q) at e))

  pub own-nowhere : ticket_update m t ≡ 0 → own_number l m t ≡ 0
  own-nowhere e = rw (eq-eqb (ticket_update m t) 0 e)

  pub own-away : 0 < ticket_update m t → (version_of m t).line ≢ l → own_number l m t ≡ 0
  own-away o n = rw (ne_eqb (ticket_update m t) 0 (λ z. omega arith), ne_eqb (version_of m t).line l n)

  pub own-mine : 0 < ticket_update m t → (version_of m t).line ≡ l → own_number l m t ≡ (version_of m t).number
  own-mine o e = rw (ne_eqb (ticket_update m t) 0 (λ z. omega arith), eq-eqb (version_of m t).line l e)

-- ---- a ticket that is there, or not

module _ (ks : List Ticket) (t : ℕ) where
  pub is-there : absent ks t ≡ false → (0 < t) × (t ≤ length ks)
  is-there e =
      let b = or_split (eqb t 0) (ltb (length ks) t) e in
      let z = eqb-false t 0 b.0 in
      (omega arith, ltb-false (length ks) t b.1)

  pub there-is : 0 < t → t ≤ length ks → absent ks t ≡ false
  there-is o h = rw (ne_eqb t 0 (λ z. omega arith), le-ltb (length ks) t h)

  not-there : absent ks t ≡ true → (t ≡ 0) ⊎ (length ks < t)
  not-there e = elim (ℕ_discrete t 0) [ yes z ↦ inl z | no n ↦ inr (ltb-true (length ks) t (rw (ne_eqb t 0 n) at e)) ]

  absent-ticket : absent ks t ≡ true → nth no_ticket ks t ≡ no_ticket
  absent-ticket e = elim (not-there e) [ inl z ↦ rw z | inr h ↦ nth_past no_ticket ks t h ]

absent-nowhere : {L : Limits} (m : Model) (t : ℕ) → Kept L m → absent m.tickets t ≡ true → ticket_update m t ≡ 0
absent-nowhere {L = L} m t S e = elim (not-there m.tickets t e) [ inl z ↦ rw z (ticket-zero L m S) | inr h ↦ ticket-past L m S t h ]

-- The k-th of some tickets, also where there is none.
pub ticket-upto : {ts : List ℕ} {ks : List Ticket} → Tickets ts ks → (k : ℕ) → nth 0 ts k ≤ length ks
ticket-upto T zero = omega arith
ticket-upto {ts = ts} {ks = ks} T (suc k) = elim (lt-or-le k (length ts)) [
  | inl h ↦ (is-there ks (nth 0 ts (suc k)) (T.there (suc k) (omega arith) h)).1
  | inr h ↦ omega (arith, nth_past 0 ts (suc k) (omega arith))
]

-- Tickets are still there where no ticket is gone.
pub tickets-stay : {ts : List ℕ} {ks : List Ticket} (ks₁ : List Ticket) → length ks ≤ length ks₁ → Tickets ts ks → Tickets ts ks₁
tickets-stay {ts = ts} {ks = ks} ks₁ q T = record {
  there = λ k o h. let b = is-there ks (nth 0 ts k) (T.there k o h) in there-is ks₁ (nth 0 ts k) b.0 (omega (arith, b.1));
  once = T.once;
}

-- A version that a ticket got is not number 0.
some_number : {L : Limits} (l : ℕ) (m : Model) (t : ℕ) → Kept L m → 0 < ticket_update m t → (version_of m t).line ≡ l → 0 < own_number l m t
some_number {L = L} l m t S o e = rw (own-mine l m t o e) (omega (arith, (update-got L m S t o).own))

-- ---- two tickets that mean the same

pub record Pair (l l' : ℕ) (ts ts' : List ℕ) (m m' : Model) (t t' : ℕ) : Type 0 where
  pub there : absent m.tickets t ≡ absent m'.tickets t'
  pub slots : (ticket_in m t).slots ≡ (ticket_in m' t').slots
  pub own : own_number l m t ≡ own_number l' m' t'
  pub left : (k : ℕ) → 0 < k → k ≤ length ts → nth 0 ts k ≡ t → nth 0 ts' k ≡ t'
  pub right : (k : ℕ) → 0 < k → k ≤ length ts → nth 0 ts' k ≡ t' → nth 0 ts k ≡ t

module _ {L : Limits} {l l' : ℕ} {ts ts' : List ℕ} {m m' : Model} (M : Match l l' ts ts' m m') (S : Kept L m) (S' : Kept L m') where
  pair-none : (t t' : ℕ) → absent m.tickets t ≡ true → absent m'.tickets t' ≡ true → Pair l l' ts ts' m m' t t'
  pair-none t t' e e' = record {
    there = e ∙ sym e';
    slots = ap (λ (x : Ticket). x.slots) (absent-ticket m.tickets t e ∙ sym (absent-ticket m'.tickets t' e'));
    own = own-nowhere l m t (absent-nowhere m t S e) ∙ sym (own-nowhere l' m' t' (absent-nowhere m' t' S' e'));
    left = λ k o h q. absurd (false≢true (sym (M.matched.tickets.there k o h) ∙ ap (absent m.tickets) q ∙ e));
    right = λ k o h q. absurd (false≢true (sym (M.matched.tickets'.there k o (omega (arith, M.matched.count))) ∙ ap (absent m'.tickets) q ∙ e'));
  }

  pub pair-kth : (k : ℕ) → 0 < k → k ≤ length ts → Pair l l' ts ts' m m' (nth 0 ts k) (nth 0 ts' k)
  pair-kth k o h =
      let T = M.matched.tickets in
      let T' = M.matched.tickets' in
      let h' : k ≤ length ts' = omega (arith, M.matched.count) in
      record {
        there = T.there k o h ∙ sym (T'.there k o h');
        slots = M.matched.slots k;
        own = M.own k;
        left = λ j p q e. ap (nth 0 ts') (T.once j k p q o h e);
        right = λ j p q e. ap (nth 0 ts) (T'.once j k p (omega (arith, M.matched.count)) o h' e);
      }

  pub pair : {t t' : ℕ} → SameTicket l l' ts ts' m m' t t' → Pair l l' ts ts' m m' t t'
  pair (kth zero) = pair-none 0 0 refl refl
  pair (kth (suc k)) = elim (lt-or-le k (length ts)) [
    | inl h ↦ pair-kth (suc k) (omega arith) h
    | inr h ↦ rw (nth_past 0 ts (suc k) (omega arith), nth_past 0 ts' (suc k) (omega (arith, M.matched.count))) (pair-none 0 0 refl refl)
  ]
  pair (neither {t = t} {t' = t'} e e') = pair-none t t' e e'

  module _ {t t' : ℕ} (P : Pair l l' ts ts' m m' t t') where
    -- Assigned in neither state, on the line in both, or elsewhere in one.
    pub assigned-cases : (eqb (ticket_update m t) 0 ≡ eqb (ticket_update m' t') 0) ⊎ ((elsewhere l m t ≡ true) ⊎ (elsewhere l' m' t' ≡ true))
    assigned-cases = go (where-is l m t) (where-is l' m' t')
      where
        go : Where l m t → Where l' m' t' → (eqb (ticket_update m t) 0 ≡ eqb (ticket_update m' t') 0) ⊎ ((elsewhere l m t ≡ true) ⊎ (elsewhere l' m' t' ≡ true))
        go (nowhere e) (nowhere e') = inl (rw (eq-eqb (ticket_update m t) 0 e, eq-eqb (ticket_update m' t') 0 e'))
        go (nowhere e) (mine o q) = absurd (omega (arith, some_number l' m' t' S' o q, P.own, own-nowhere l m t e))
        go (nowhere e) (away o n) = inr (inr (is-elsewhere l' m' t' o n))
        go (mine o q) (nowhere e) = absurd (omega (arith, some_number l m t S o q, P.own, own-nowhere l' m' t' e))
        go (mine o q) (mine o' q') = inl (rw (ne_eqb (ticket_update m t) 0 (λ z. omega arith), ne_eqb (ticket_update m' t') 0 (λ z. omega arith)))
        go (mine o q) (away o' n) = inr (inr (is-elsewhere l' m' t' o' n))
        go (away o n) w = inr (inl (is-elsewhere l m t o n))

    -- Assigned on the line in one state, it is so in the other, as the same version.
    pub mine-too : 0 < ticket_update m t → (version_of m t).line ≡ l → (0 < ticket_update m' t') × ((version_of m' t').line ≡ l') × ((version_of m t).number ≡ (version_of m' t').number)
    mine-too o e = go (where-is l' m' t')
      where
        go : Where l' m' t' → (0 < ticket_update m' t') × ((version_of m' t').line ≡ l') × ((version_of m t).number ≡ (version_of m' t').number)
        go (nowhere z) = absurd (omega (arith, some_number l m t S o e, P.own, own-nowhere l' m' t' z))
        go (mine o' e') = (o', e', sym (own-mine l m t o e) ∙ P.own ∙ own-mine l' m' t' o' e')
        go (away o' n) = absurd (omega (arith, some_number l m t S o e, P.own, own-away l' m' t' o' n))

    pub mine-back : 0 < ticket_update m' t' → (version_of m' t').line ≡ l' → 0 < ticket_update m t
    mine-back o e = go (where-is l m t)
      where
        go : Where l m t → 0 < ticket_update m t
        go (nowhere z) = absurd (omega (arith, some_number l' m' t' S' o e, P.own, own-nowhere l m t z))
        go (mine o' e') = o'
        go (away o' n) = o'
