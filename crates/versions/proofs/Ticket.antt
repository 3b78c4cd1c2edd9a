-- The rows of a call on a ticket begin with rows 3 and 7, which `ticket_refusal` has tested: its number decides where it is not 0, else the rows after them.
-- Assumes nothing.
use mathlib.Core.Path.{◌≡◌, sym, ap, ◌∙◌}
use mathlib.Core.List.{List, [], ◌∷◌}
use Prim.Native.Nat.{ℕ}
use Rattle.table.specs.Table.{Cond, Row, ◌gives◌, first_refusal, or_else}
use Rattle.table.proofs.Table.{First, skip, rest, passed, or_else-suc, parts}

pub stop : {c d : Cond} {r : ℕ} {rows : List Row} → r ≡ first_refusal ((c gives 3) ∷ (d gives 7) ∷ []) → (r ≡ 0 → ⊥) → First ((c gives 3) ∷ (d gives 7) ∷ rows) r
stop {c} {d} {r} {rows} e h =
    let m = first_refusal rows in
    rest (sym (or_else-suc r m h) ∙ ap (λ (k : ℕ). or_else k m) e ∙ sym (parts ((c gives 3) ∷ (d gives 7) ∷ []) rows tt))

pub go_on : {c d : Cond} {r : ℕ} {rows : List Row} → first_refusal ((c gives 3) ∷ (d gives 7) ∷ []) ≡ 0 → First rows r → First ((c gives 3) ∷ (d gives 7) ∷ rows) r
go_on {c} {d} e t = let p = passed ((c gives 3) ∷ (d gives 7) ∷ []) tt e in skip p.0 (skip p.1.0 t)
