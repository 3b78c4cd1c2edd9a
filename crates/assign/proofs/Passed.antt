-- What the rows of ASSIGN, passed, say of the store and the ticket's record. Assumes nothing.
use mathlib.Core.Path.{◌≡◌}
use mathlib.Core.Logic.{◌⊎◌, inl, inr}
use Prim.Native.Nat.{ℕ, ◌≤◌, ◌<◌}
use native.Mathlib.Omega.{arith}
use Rattle.register.specs.declared.Record.{Record}
use Rattle.table.specs.Table.{assign_rows}
use Rattle.table.proofs.Table.{passed}
use Rattle.assign.specs.Assign.{Roomy, assign_refusal}
use Rattle.versions.specs.declared.Store.{Store}
use Rattle.versions.specs.declared.Lengths.{Lengths}

-- A row that reads the ticket's record has failed, and the record lies within the register: so what it says of the record has failed.
read : {A : Type 0} {t u : ℕ} → (u < t) ⊎ A → t ≤ u → A
read (inl q) h = absurd (omega arith)
read (inr a) h = a

pub assign-passed : (s : Store) (g : Lengths) (r : Record) (l t f : ℕ) → assign_refusal s g r l t f ≡ 0 → Roomy s l f r.n
unfolding assign_refusal assign_rows
assign-passed s g r l t f e =
    let p = passed _ tt e in
    let lost = p.1.1.1.1.1.1.1.1.0 in
    record {
      inside = read p.1.1.1.1.1.1.0 lost.0;
      nodes = read p.1.1.1.1.1.1.1.0 lost.0;
      update = lost.1.0;
      version = lost.1.1;
    }

-- The ticket's record lies within the register.
pub assign-ticket : (s : Store) (g : Lengths) (r : Record) (l t f : ℕ) → assign_refusal s g r l t f ≡ 0 → (g.register ≡ s.updates) × (0 < t) × (t ≤ s.updates)
unfolding assign_refusal assign_rows
assign-ticket s g r l t f e =
    let p = passed _ tt e in
    (p.0.1.1, omega (arith, p.1.0), p.1.1.1.1.1.1.1.1.0.0)
