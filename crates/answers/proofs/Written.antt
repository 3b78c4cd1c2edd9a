-- The line of an answer is no longer than its array. Assumes nothing.
use Rattle.std.proofs.Common.{◌≡◌, ◌≤◌, ℕ, Bool, true, false, List, length, refl, arith}
use borrow.Author.Tests.{leb-true}
use lib.Dec.{leb}
use Rattle.text.specs.Text.{pick}
use Rattle.text.specs.Buffer.{wrote}
use Rattle.answers.specs.Answers.{written, blank}

by_room : (n m : ℕ) (b : Bool) → leb n m ≡ b → pick b n 0 ≤ m
by_room n m true e = leb-true n m e
by_room n m false e = omega arith

pub written_fits : (l : List ℕ) → (written l).len ≤ 520
unfolding written wrote blank
written_fits l = by_room (length l) 520 (leb (length l) 520) refl
