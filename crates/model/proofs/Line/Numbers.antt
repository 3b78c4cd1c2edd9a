-- The number of a version of a line in the node area: it is not 0, it says its line and its version, and so where the version's nodes lie.
-- Assumes nothing.
use Rattle.std.proofs.Common.{Some}
use mathlib.Core.Path.{◌≡◌, refl, ap, ap₂, ◌∙◌}
use mathlib.Core.Bool.{true}
use Prim.Native.Nat.{ℕ, zero, suc, ◌+◌, ◌*◌, ◌/◌, ◌%◌, ◌≤◌, ◌<◌}
use native.Mathlib.Omega.{arith}
use borrow.Author.Tests.{lt-ltb}
use lib.ListN.{length}
use Rattle.tree.specs.Tree.{update}
use Rattle.tree.specs.Walk.{has_node, place_by}
use Rattle.model.specs.History.{updates}
use Rattle.model.specs.Model.{Limits, Model, line_at, history, numbered, number_in}
use Rattle.model.specs.Snapshot.{numbers_on, place_of_update, place_of_number}
use Rattle.model.proofs.Model.Sound.{Sound}
use Rattle.model.proofs.Model.Facts.{versions-most}
use Rattle.model.proofs.Model.Shown.{shown_at, update-shown}
use Rattle.model.proofs.Line.Owner.{owner_of, owner-there, owner_shows, owner-number}

pub numbered_is : (l v : ℕ) → 0 < v → numbered l v ≡ l * 65536 + v
numbered_is l zero o = absurd (omega arith)
numbered_is l (suc v) o = refl

module _ (L : Limits) (m : Model) (S : Sound L m) (l v : ℕ) (there : l < length m.lines) (o : 0 < v) (h : v ≤ length (line_at m l).shown) where
  pub number_is : number_in (history m l) v ≡ owner_of m l v * 65536 + v
  number_is = owner-number L m S l v there o h ∙ numbered_is (owner_of m l v) v o

  pub number-some : 0 < number_in (history m l) v
  number-some = omega (arith, number_is)

  pub number-line : number_in (history m l) v / 65536 ≡ owner_of m l v
  number-line = omega (arith, number_is, versions-most L m S l there)

  pub number-version : number_in (history m l) v % 65536 ≡ v
  number-version = omega (arith, number_is, versions-most L m S l there)

  -- It is far below all ones.
  pub number-low : number_in (history m l) v < 1048576
  number-low = omega (arith, number_is, versions-most L m S l there, owner-there L m S l v there o h, S.few)

  -- Its nodes lie where those of the update do that the line shows.
  pub number-place : (p j : ℕ) → place_of_number m (number_in (history m l) v) p j ≡ place_of_update m (shown_at m l v) p j
  unfolding place_of_number
  number-place p j =
      ap (λ (k : ℕ). place_of_update m k p j) (ap₂ (shown_at m) number-line number-version ∙ owner_shows L m S l v there o h)

  pub place-has : (p j : ℕ) → has_node (update (updates (history m l)) v) p j ≡ true
      → place_of_number m (number_in (history m l) v) p j ≡ Some (place_by (updates (history m l)) (numbers_on m l) v p j)
  unfolding place_by
  place-has p j e =
      let u = update-shown m l v in
      let e' = rw u at e in
      number-place p j ∙ rw (u, lt-ltb 0 (shown_at m l v) ((S.lines l there).some v o h), e')

-- So is the number of every version up to the last; version 0 has the number 0.
pub number-below : (L : Limits) (m : Model) → Sound L m → (l v : ℕ) → l < length m.lines → v ≤ length (line_at m l).shown → number_in (history m l) v < 1048576
number-below L m S l zero there h = omega arith
number-below L m S l (suc v) there h = number-low L m S l (suc v) there (omega arith) h
