-- The update that ASSIGN is to make, as the code works it out: once for a call, before the rows are tried.
use Rattle.std.specs.Prelude.{◌≡◌, ℕ, List, length, ◌+◌, ◌-◌, ◌^◌, ◌<◌, ◌≤◌, min, max}
use Rattle.tree.specs.Tree.{root_height, nth}
use Rattle.register.specs.Register.{no_record}
use Rattle.register.specs.declared.Record.{Record}
use Rattle.versions.specs.Store.{line_in}
use Rattle.versions.specs.declared.Store.{Store}
use Rattle.assign.specs.Assign.{update_at, number_by, part_by, Roomy}
use Rattle.assign.specs.declared.NewUpdate.{NewUpdate}

-- The update of ticket t's n pages at page f of line l: what its record will say of it, of sums in 64 bits.
abbrev pub new_update : Store → ℕ → ℕ → ℕ → ℕ → NewUpdate
new_update s l t f n =
    let b = line_in s l in
    let end = min (f + n) (2 ^ 64 - 1) in
    let u = update_at b.blob f n in
    record {
      line = record { 0 = l };
      ticket = record { 0 = t };
      n = n;
      part = part_by u (number_by l b) f (end - 1) (max b.blob end) (min (s.places + root_height u.size) (2 ^ 64 - 1));
    }

-- An update that the rows, passed, leave room for. Its node places are counted in 64 bits.
pub record Fits (s : Store) (u : NewUpdate) : Type 0 where
  pub new : u ≡ new_update s u.line.0 u.ticket.0 u.part.f.0 u.n
  pub room : Roomy s u.line.0 u.part.f.0 u.n
  pub places : s.places + u.part.count < 2 ^ 64

-- Its ticket's record lies within the register, which has the store's length, and says how many pages it has.
pub record Known (s : Store) (rs : List Record) (u : NewUpdate) : Type 0 where
  pub records : length rs ≡ s.updates
  pub counted : 0 < u.ticket.0
  pub there : u.ticket.0 ≤ s.updates
  pub pages : u.n ≡ (nth no_record rs u.ticket.0).n
