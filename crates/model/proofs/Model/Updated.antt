-- The update that a ticket got, as an update is added.
-- Assumes nothing.
use mathlib.Core.Path.{◌≡◌, refl, sym, ◌∙◌}
use mathlib.Core.Logic.{◌⊎◌, inl, inr}
use mathlib.Core.List.{List, [], ◌∷◌, ◌++◌}
use Prim.Native.Nat.{ℕ, suc, ◌+◌, ◌≤◌, ◌<◌}
use native.Mathlib.Decide.{ℕ_discrete}
use native.Mathlib.Omega.{arith}
use borrow.Author.Tests.{eq-eqb, ne_eqb}
use lib.ListN.{length, get_or}
use Rattle.model.specs.History.{Version, no_version}
use Rattle.model.specs.Model.{Model, update_at, update_from, ticket_update}

module _ (k : ℕ) (x : Version) (xs : List Version) (t : ℕ) where
  -- The first update listed is the ticket's, or it is not.
  from-here : x.ticket ≡ t → update_from k (x ∷ xs) t ≡ k
  unfolding update_from
  from-here e = rw (eq-eqb x.ticket t e, update_from)

  from-later : (x.ticket ≡ t → ⊥) → update_from k (x ∷ xs) t ≡ update_from (suc k) xs t
  unfolding update_from
  from-later e = rw (ne_eqb x.ticket t e, update_from)

-- A ticket has no update, or that of a place in the list.
pub record Got (k : ℕ) (xs : List Version) (t : ℕ) : Type 0 where
  pub place : ℕ
  pub there : place < length xs
  pub is : update_from k xs t ≡ k + place
  pub ticket : (get_or xs place no_version).ticket ≡ t

pub update-cases : (k : ℕ) (xs : List Version) (t : ℕ) → (update_from k xs t ≡ 0) ⊎ Got k xs t
unfolding update_from
update-cases k [] t = inl refl
update-cases k (x ∷ xs) t = elim (ℕ_discrete x.ticket t) [
  | yes e ↦ inr (record { place = 0; there = omega arith; is = omega (arith, from-here k x xs t e); ticket = e })
  | no n ↦ elim (update-cases (suc k) xs t) [
    | inl z ↦ inl (from-later k x xs t n ∙ z)
    | inr g ↦ inr (record { place = suc g.place; there = omega arith; is = omega (arith, from-later k x xs t n); ticket = g.ticket })
  ]
]

-- One more update leaves the update of every other ticket, and of one that has one.
pub update_other : (k : ℕ) (xs : List Version) (x : Version) (t : ℕ) → (x.ticket ≡ t → ⊥) → update_from k (xs ++ x ∷ []) t ≡ update_from k xs t
unfolding update_from
update_other k [] x t n = from-later k x [] t n
update_other k (y ∷ xs) x t n = elim (ℕ_discrete y.ticket t) [
  | yes e ↦ from-here k y (xs ++ x ∷ []) t e ∙ sym (from-here k y xs t e)
  | no d ↦ from-later k y (xs ++ x ∷ []) t d ∙ update_other (suc k) xs x t n ∙ sym (from-later k y xs t d)
]

pub update-had : (k : ℕ) (xs : List Version) (x : Version) (t : ℕ) → 0 < update_from k xs t → update_from k (xs ++ x ∷ []) t ≡ update_from k xs t
unfolding update_from
update-had k [] x t h = absurd (omega arith)
update-had k (y ∷ xs) x t h = elim (ℕ_discrete y.ticket t) [
  | yes e ↦ from-here k y (xs ++ x ∷ []) t e ∙ sym (from-here k y xs t e)
  | no d ↦ from-later k y (xs ++ x ∷ []) t d ∙ update-had (suc k) xs x t (omega (arith, from-later k y xs t d)) ∙ sym (from-later k y xs t d)
]

-- A ticket that had none gets the new one.
pub update-gets : (k : ℕ) (xs : List Version) (x : Version) → 0 < k → update_from k xs x.ticket ≡ 0 → update_from k (xs ++ x ∷ []) x.ticket ≡ k + length xs
unfolding update_from
update-gets k [] x o z = omega (arith, from-here k x [] x.ticket refl)
update-gets k (y ∷ xs) x o z = elim (ℕ_discrete y.ticket x.ticket) [
  | yes e ↦ absurd (omega (arith, from-here k y xs x.ticket e))
  | no d ↦ omega (arith, from-later k y (xs ++ x ∷ []) x.ticket d, update-gets (suc k) xs x (omega arith) (sym (from-later k y xs x.ticket d) ∙ z))
]

-- On a model: the update is one assigned, and its ticket is this one.
pub update-le : (m : Model) (t : ℕ) → ticket_update m t ≤ length m.updates
update-le m t = elim (update-cases 1 m.updates t) [ inl z ↦ omega arith | inr g ↦ omega arith ]

pub update-ticket : (m : Model) (t : ℕ) → 0 < ticket_update m t → (update_at m (ticket_update m t)).ticket ≡ t
update-ticket m t o = elim (update-cases 1 m.updates t) [ inl z ↦ absurd (omega arith) | inr g ↦ at g.place (omega (arith, g.is)) g.ticket ]
  where
    at : (i : ℕ) → ticket_update m t ≡ suc i → (get_or m.updates i no_version).ticket ≡ t → (update_at m (ticket_update m t)).ticket ≡ t
    at i e h = rw e h

pub update-past : (m : Model) (t : ℕ) → ((k : ℕ) → 0 < k → k ≤ length m.updates → (update_at m k).ticket ≡ t → ⊥) → ticket_update m t ≡ 0
update-past m t h = elim (update-cases 1 m.updates t) [
  | inl z ↦ z
  | inr g ↦ absurd (h (suc g.place) (omega arith) (omega arith) g.ticket)
]
