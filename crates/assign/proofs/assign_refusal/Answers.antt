-- At each return, the rows passed and the row stopped at.
use Rattle.std.proofs.Common.{◌≡◌, ℕ, ◌≤◌, Bool, true, false, not, ◌⊎◌, inl, inr, ◌∷◌, [], sym, ◌∙◌, rules, arith, le-leb, le-ltb}
use Rattle.table.specs.Table.{Cond, ◌≤?◌, ◌<?◌, ◌and◌, ◌or◌, ◌gives◌, holds, first_refusal, assign_rows}
use Rattle.table.specs.Refused.{number, number_in}
use Rattle.table.specs.declared.Refusal.{Refusal}
use Rattle.table.proofs.Refused.{number_stands}
use Rattle.table.proofs.Table.{hit, skip, rest, first, or_else-0}
use Rattle.versions.proofs.Ticket.{stop, go_on}
use Rattle.assign.proofs.assign_refusal.Goals as goal

-- A refusal's number is not 0.
some : (e : Refusal) → number e ≡ 0 → ⊥
some e z = omega (arith, number_stands e 1, or_else-0 (number e) 1 z)

-- A row that reads the ticket's record has failed: that lies past the register, or does not say so.
new : {A B C : Type 0} → (A × B) ⊎ C → C ⊎ B
new (inl p) = inr p.1
new (inr q) = inl q

filled : {A C : Type 0} (a b : Bool) → a ≡ b → (A × (a ≡ true)) ⊎ C → C ⊎ (not b ≡ false)
filled a b e (inl p) = inr (rw (← e, p.1))
filled a b e (inr q) = inl q

-- The rows from 14 on where the record lies within the register.
within :
    (a b c : Cond) (t u k : ℕ) → t ≤ u → k ≡ first_refusal ((a gives 14) ∷ (b gives 15) ∷ (c gives 19) ∷ [])
    → k ≡ first_refusal ((t ≤? u and a gives 14) ∷ (t ≤? u and b gives 15) ∷ (u <? t or c gives 19) ∷ [])
unfolding first_refusal holds
within a b c t u k h z = z ∙ rw (le-leb t u h, le-ltb u t h)

pub returns-in_err-ticket_refusal-clause-refused : goal.returns-in_err-ticket_refusal-clause-refused
unfolding assign_rows
returns-in_err-ticket_refusal-clause-refused c =
    let e = c.in_err-ticket_refusal.field-0.0 in
    let same : number_in c.from_residual.result ≡ number e = search rules in
    same ∙ first (stop c.in_err-ticket_refusal.ensures (some e))

pub returns-in_err-ticket_refusal-clause-accepted : goal.returns-in_err-ticket_refusal-clause-accepted
returns-in_err-ticket_refusal-clause-accepted c =
    let e = c.in_err-ticket_refusal.field-0.0 in
    let same : number_in c.from_residual.result ≡ number e = search rules in
    λ z. absurd (some e (sym same ∙ z))

pub returns-then-r-ne0-clause-refused : goal.returns-then-r-ne0-clause-refused
unfolding assign_rows
returns-then-r-ne0-clause-refused c = first (go_on (search rules) (hit (omega arith, omega arith)))

pub returns-then-lines_begun-u-clause-refused : goal.returns-then-lines_begun-u-clause-refused
unfolding assign_rows
returns-then-lines_begun-u-clause-refused c = first (go_on (search rules) (skip (new c.else-there.either) (hit (search rules))))

pub returns-then-not-full-clause-refused : goal.returns-then-not-full-clause-refused
unfolding assign_rows
returns-then-not-full-clause-refused c =
    first (go_on (search rules) (skip (new c.else-there.either) (skip (search rules) (hit (c.if-there-2.true, rw (← c.if-not-full.ensures))))))

pub returns-then-end-u-clause-refused : goal.returns-then-end-u-clause-refused
unfolding assign_rows
returns-then-end-u-clause-refused c =
    let put = filled _ _ c.all_put-full.ensures c.else-there-2.either in
    first (go_on (search rules) (skip (new c.else-there.either) (skip (search rules) (skip put (hit (grind (arith, rules)))))))

pub returns-then-not-there-clause-refused : goal.returns-then-not-there-clause-refused
unfolding assign_rows
returns-then-not-there-clause-refused c =
    let put = filled _ _ c.all_put-full.ensures c.else-there-2.either in
    let past = c.if-not-there.true in
    first (go_on (search rules) (skip (new c.else-there.either) (skip (search rules) (skip put (skip (grind (arith, rules)) (skip (inl past) (skip (inl past) (hit (inl past)))))))))

pub returns-clause-refused : goal.returns-clause-refused
unfolding assign_rows
returns-clause-refused c =
    let put = filled _ _ c.all_put-full.ensures c.else-there-2.either in
    first (go_on (search rules) (skip (new c.else-there.either) (skip (search rules) (skip put (skip (grind (arith, rules)) (rest (within _ _ _ _ _ _ c.if-not-there.false c.room_refusal.ensures.refused)))))))
