-- The limits that FORMAT accepts.
-- Assumes nothing.
use mathlib.Core.Path.{◌≡◌}
use mathlib.Core.Logic.{inl, inr}
use Prim.Native.Nat.{ℕ, ◌%◌, ◌≤◌}
use native.Mathlib.Nat.{mod-eq_of_lt}
use native.Mathlib.Omega.{arith}
use Rattle.tree.proofs.Meets.{lt-or-le}
use Rattle.table.specs.Table.{format_rows}
use Rattle.table.proofs.Table.{passed}
use Rattle.versions.specs.Store.{Areas}
use Rattle.format.specs.Format.{format_refusal}
use Rattle.model.specs.Model.{Limits}
use Rattle.model.proofs.Model.Sound.{Allowed}
use Rattle.demands.specs.Demands.{Accepted}

divisor-le : (s : ℕ) → 4096 % s ≡ 0 → s ≤ 4096
divisor-le s e = elim (lt-or-le 4096 s) [ inl h ↦ absurd (omega (arith, mod-eq_of_lt h)) | inr h ↦ h ]

pub format-allowed : (L : Limits) (a : Areas) → Accepted L a → Allowed L
unfolding format_refusal format_rows
format-allowed L a e =
    let r = passed _ tt e in
    record {
      some_page = omega (arith, r.0.0);
      page_size = divisor-le L.size r.0.1;
      pages = omega (arith, r.1.0);
      nodes = omega (arith, r.1.0);
      updates = omega (arith, r.1.0);
    }
