-- What the register's records say: the update of a record's part lies within the limits, which record a version's is, and the newest of a line's own versions.
-- Assumes nothing.
use mathlib.Core.Path.{◌≡◌, refl, ap, ◌∙◌}
use mathlib.Core.Bool.{true, false}
use mathlib.Core.List.{List}
use Prim.Native.Nat.{ℕ, zero, suc, pred, ◌+◌, ◌-◌, ◌%◌, ◌^◌, ◌≤◌, ◌<◌}
use native.Mathlib.Decide.{ℕ_discrete}
use native.Mathlib.Numerals.{sub-one}
use native.Mathlib.Omega.{arith}
use borrow.Author.Tests.{lt-ltb, le-ltb, eq-eqb, ne_eqb}
use lib.ListN.{length, get_or, get_or-eq_default}
use Rattle.tree.specs.Tree.{Update, meets, nth}
use Rattle.lines.specs.Lines.{number_of, line_of, version_of, entry_at}
use Rattle.lines.proofs.Packed.{entry-none}
use Rattle.register.specs.Register.{no_record, part_of, update_of, version_record, version_part, newest_own}
use Rattle.register.specs.declared.Record.{Record}
use Rattle.register.specs.declared.Part.{Part}
use Rattle.std.proofs.lemmas.List.{get_or_default}

pub update_of-inside : (q : Part) → ((update_of q).f ≤ (update_of q).last) × ((update_of q).last < (update_of q).size) × ((update_of q).size ≤ 4096)
unfolding update_of
update_of-inside q = (omega arith, omega arith, omega arith)

-- A number counted from 1 is an index one lower.
pub nth-before : (rs : List Record) (k : ℕ) → 0 < k → get_or rs (k - 1) no_record ≡ nth no_record rs k
nth-before rs zero p = absurd (omega arith)
nth-before rs (suc i) p = simp sub-one

-- The same of an index within the register, whatever stands past its end.
pub nth-pred : (rs : List Record) (k : ℕ) (past : Record) → 0 < k → pred k < length rs → get_or rs (pred k) past ≡ nth no_record rs k
nth-pred rs k past p h =
    let before : pred k ≡ k - 1 = omega arith in
    get_or_default rs (pred k) past no_record h ∙ ap (λ (j : ℕ). get_or rs j no_record) before ∙ nth-before rs k p

-- Past the register there is no record: that of 0 has an index that wraps, as the code computes it.
nth-none : (rs : List Record) (k : ℕ) → length rs ≤ (k + (2 ^ 64 - 1)) % 2 ^ 64 → nth no_record rs k ≡ no_record
nth-none rs zero h = refl
nth-none rs (suc k) h = get_or-eq_default rs no_record (omega arith)

-- ---- the record of the version numbered c

module _ (rs : List Record) (c : ℕ) where
  -- The record of the version's own number, as a store with one line has it.
  abbrev here : Record
  here = nth no_record rs (version_of c)

  -- Where that one has the number it is the version's.
  pub version-own : here.name ≡ c → version_record rs c ≡ here
  unfolding version_record
  version-own e = rw (eq-eqb here.name c e)

  -- Else it is the one that the line's entry there names.
  pub version-entry : (here.name ≡ c → ⊥) → version_record rs c ≡ nth no_record rs (entry_at here.entries (line_of c))
  unfolding version_record
  version-entry n = rw (ne_eqb here.name c n)

  -- Past the register there is none.
  version-none : here ≡ no_record → version_record rs c ≡ no_record
  version-none e = elim (ℕ_discrete here.name c) [
    | yes n ↦ version-own n ∙ e
    | no n ↦
        version-entry n
        ∙ ap (λ (r : Record). nth no_record rs (entry_at r.entries (line_of c))) e
        ∙ ap (λ (k : ℕ). nth no_record rs k) (entry-none (line_of c))
  ]

  pub version-past : length rs ≤ (version_of c + (2 ^ 64 - 1)) % 2 ^ 64 → version_part rs c ≡ part_of no_record
  version-past h = ap part_of (version-none (nth-none rs (version_of c) h))

pub ruleset past = (version-past)

-- ---- the newest of a line's own versions that meets some pages

module _ (rs : List Record) (l start a s : ℕ) where
  -- Up to the version that the line begins from there is none; so none up to version 0.
  pub newest-own-none : (v : ℕ) → v ≤ start → newest_own rs l start v a s ≡ 0
  unfolding newest_own
  newest-own-none zero p = refl
  newest-own-none (suc v) p = rw (le-ltb start (suc v) p)

  module _ (v : ℕ) (own : start < suc v) where
    -- The update of the line's own version one higher.
    abbrev after : Update
    after = update_of (version_part rs (number_of l (suc v)))

    -- A version that meets the pages is the newest up to itself.
    pub newest-own-met : meets after.f after.last a s ≡ true → newest_own rs l start (suc v) a s ≡ suc v
    unfolding newest_own
    newest-own-met e = rw (lt-ltb start (suc v) own, e)

    -- One that does not is passed over.
    pub newest-own-unmet : meets after.f after.last a s ≡ false → newest_own rs l start (suc v) a s ≡ newest_own rs l start v a s
    unfolding newest_own
    newest-own-unmet e = rw (lt-ltb start (suc v) own, e)
