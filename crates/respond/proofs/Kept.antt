-- WORST leaves what is kept, whatever its count. Assumes nothing.
use Rattle.std.proofs.Common.{◌≡◌, ℕ, Bool, true, false, Option, refl, eqb}
use Rattle.text.specs.Text.{pick}
use Rattle.versions.specs.declared.Store.{Store}
use Rattle.answers.specs.Answers.{Said, worst_said}

by_count : (k : Option Store) (x y : Said) → x.kept ≡ k → y.kept ≡ k → (b : Bool) → (pick b x y).kept ≡ k
by_count k x y p q true = p
by_count k x y p q false = q

pub worst_keeps : (k : Option Store) (n : ℕ) → (worst_said k n).kept ≡ k
worst_keeps k n = by_count k _ _ refl refl (eqb n 0)
