-- What a level of the walk carries down, in numbers of 64 bits.

use Rattle.std.specs.Prelude.{◌≡◌, ℕ, ◌+◌, ◌-◌, ◌%◌, ◌^◌, ◌≤◌}
use Rattle.tree.specs.Place.{halvings}
use Rattle.tree.specs.Contract.{root_in, height_in}
use Rattle.descent.specs.Places.{first_over}

-- Of the node over page p: its first page, its span, the halvings of its first page, and these less its height.
pub record Carries (p a span halved carried : ℕ) : Type 0 where
  pub spans : root_in span ≡ span
  pub inside : a + span ≤ 4096
  pub over : a ≡ first_over p (height_in span)
  pub halvings-of : halved ≡ halvings a
  pub less-height : carried ≡ (halvings a + (2 ^ 64 - height_in span)) % 2 ^ 64
