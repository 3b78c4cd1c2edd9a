-- The place of a version's node by its part, comparison by comparison, and of its leaf. Assumes nothing.

use Rattle.std.proofs.Common.{◌≡◌, ℕ, ◌+◌, ◌-◌, ◌%◌, ◌^◌, ◌<◌, ◌≤◌, min, Bool, true, false, ltb, ◌≢◌, List, refl, ap, ◌∙◌, arith, le-ltb, lt-ltb, eq-eqb, ne_eqb, Option, None, Some}
use mathlib.Core.Bool.{and-false}
use Rattle.lines.specs.Lines.{pick}
use Rattle.register.specs.Register.{version_part}
use Rattle.register.specs.declared.Record.{Record}
use Rattle.register.specs.declared.Part.{Part}
use Rattle.descent.specs.Places.{unless_most, has_node_by, place_by_part, place_in, place_at, leaf_place}

module _ (q : Part) (c p h : ℕ) where
  pub place_other : q.name ≢ c → None ≡ place_in q c p h
  unfolding place_in
  place_other n = rw (ne_eqb q.name c n, and-false)

  pub place-none : has_node_by q p h ≡ false → None ≡ place_in q c p h
  unfolding place_in
  place-none e = rw (e, and-false)

  pub place-there : 0 < c → c < 2 ^ 64 - 1 → q.name ≡ c → has_node_by q p h ≡ true → Some (place_by_part q p h) ≡ place_in q c p h
  unfolding place_in
  place-there o m n e = rw (lt-ltb 0 c o, lt-ltb c (2 ^ 64 - 1) m, eq-eqb q.name c n, e)

-- The sums of 64 bits that the code makes.
add-mod : (a b : ℕ) → (a + b % 2 ^ 64) % 2 ^ 64 ≡ (a + b) % 2 ^ 64
add-mod a b = omega arith

less-mod : (s m x : ℕ) → m < 2 ^ 64 → s % 2 ^ 64 ≡ (x + m) % 2 ^ 64 → (s % 2 ^ 64 + (2 ^ 64 - m)) % 2 ^ 64 ≡ x % 2 ^ 64
less-mod s m x fits e = omega arith

pub place-sum : (top past g h carried : ℕ) → h ≤ 12 → g < 2 ^ 64 → carried ≡ (g + (2 ^ 64 - h)) % 2 ^ 64
    → ((top + carried) % 2 ^ 64 + (2 ^ 64 - min g past)) % 2 ^ 64 ≡ (top + (2 ^ 64 - h) + (g - past)) % 2 ^ 64
place-sum top past g h carried low fits f =
    let s : top + (g + (2 ^ 64 - h)) ≡ top + (2 ^ 64 - h) + (g - past) + min g past = omega arith in
    less-mod (top + carried) (min g past) (top + (2 ^ 64 - h) + (g - past)) (omega arith)
    (ap (λ (x : ℕ). (top + x) % 2 ^ 64) f ∙ add-mod top (g + (2 ^ 64 - h)) ∙ ap (λ (x : ℕ). x % 2 ^ 64) s)

-- ---- no version

pub below-most : (n : ℕ) → n < 2 ^ 64 - 1 → unless_most n ≡ Some n
below-most n l = rw (ne_eqb n (2 ^ 64 - 1) (λ e. omega (arith, e, l)))

-- No version is numbered 0, and none with the largest number of 64 bits.
pub part-zero : (q : Part) (p h : ℕ) → place_in q 0 p h ≡ None
unfolding place_in
part-zero q p h = refl

pub part-most : (q : Part) (p h : ℕ) → place_in q (2 ^ 64 - 1) p h ≡ None
unfolding place_in
part-most q p h = refl

pub place-zero : (rs : List Record) (p h : ℕ) → place_at rs 0 p h ≡ None
place-zero rs p h = part-zero (version_part rs 0) p h

pub place-most : (rs : List Record) (p h : ℕ) → place_at rs (2 ^ 64 - 1) p h ≡ None
place-most rs p h = part-most (version_part rs (2 ^ 64 - 1)) p h

-- ---- the leaf

-- The leaf over a page of a version that has a number, of a blob of the largest size at most.
pub leaf-there : (q : Part) (c p : ℕ) → p < 4096 → leaf_place q c p ≡ place_in q c p 0
leaf-there q c p l = rw (lt-ltb p 4096 l)

pub leaf-past : (q : Part) (c p : ℕ) → 4096 ≤ p → leaf_place q c p ≡ None
leaf-past q c p l = rw (le-ltb p 4096 l)

either-none : (b : Bool) → ◌≡◌ {A = Option ℕ} (pick b None None) None
either-none true = refl
either-none false = refl

pub leaf-zero : (q : Part) (p : ℕ) → leaf_place q 0 p ≡ None
unfolding place_in
leaf-zero q p = either-none (ltb p 4096)
