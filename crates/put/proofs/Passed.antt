-- What the rows of PUT, passed, say of the ticket. Assumes nothing.
use Rattle.std.proofs.Common.{◌≡◌, ℕ, ◌<◌, ◌≤◌, arith}
use Rattle.register.specs.declared.Record.{Record}
use Rattle.table.specs.Table.{put_rows}
use Rattle.table.proofs.Table.{passed}
use Rattle.versions.specs.declared.Store.{Store}
use Rattle.versions.specs.declared.Lengths.{Lengths}
use Rattle.put.specs.Put.{put_refusal}

-- The ticket's record lies within the register.
pub put_ticket : (s : Store) (l : Lengths) (r : Record) (t i bytes : ℕ) → put_refusal s l r t i bytes ≡ 0
    → (put_refusal s l r t i bytes ≡ 0) × (0 < t) × (t ≤ l.register)
unfolding put_refusal put_rows
put_ticket s l r t i bytes e = let p = passed _ tt e in (e, omega arith, omega arith)
