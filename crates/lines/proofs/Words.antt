-- Which word has a line's 16 bits: what the code computes is what the definitions say. Assumes nothing.
use mathlib.Core.Path.{◌≡◌}
use Prim.Native.Nat.{ℕ, zero, suc, ◌-◌, ◌/◌, ◌%◌, ◌<◌, ◌≤◌}
use native.Mathlib.Omega.{arith}
use borrow.Author.Tests.{lt-ltb, le-ltb}
use Rattle.lines.specs.Lines.{field_of, with_field, entry_at, with_entry}
use Rattle.lines.specs.declared.Entries.{Entries}

-- A word has four fields: what holds of each of the four holds of all.
pub four : (P : ℕ → Type 0) → P 0 → P 1 → P 2 → P 3 → (i : ℕ) → i < 4 → P i
four P a b c d zero h = a
four P a b c d (suc zero) h = b
four P a b c d (suc (suc zero)) h = c
four P a b c d (suc (suc (suc zero))) h = d
four P a b c d (suc (suc (suc (suc i)))) h = absurd (omega arith)

-- ---- the word of a line

module _ (e : Entries) (l : ℕ) where
  -- The first four lines have theirs in the first word.
  pub entry-0 : l < 4 → entry_at e l ≡ field_of e.from0 l
  unfolding entry_at
  entry-0 h = rw (lt-ltb l 4 h)

  -- The next four in the second.
  pub entry-4 : 4 ≤ l → l < 8 → entry_at e l ≡ field_of e.from4 (l - 4)
  unfolding entry_at
  entry-4 h k = rw (le-ltb l 4 h, lt-ltb l 8 k)

  -- The next four in the third.
  pub entry-8 : 8 ≤ l → l < 12 → entry_at e l ≡ field_of e.from8 (l - 8)
  unfolding entry_at
  entry-8 h k = rw (le-ltb l 4 (omega arith), le-ltb l 8 h, lt-ltb l 12 k)

  -- The last four in the fourth.
  pub entry-12 : 12 ≤ l → l < 16 → entry_at e l ≡ field_of e.from12 (l - 12)
  unfolding entry_at
  entry-12 h k = rw (le-ltb l 4 (omega arith), le-ltb l 8 (omega arith), le-ltb l 12 h, lt-ltb l 16 k)

  -- A line past the sixteen has none.
  pub entry_past : 16 ≤ l → entry_at e l ≡ 0
  unfolding entry_at
  entry_past h = rw (le-ltb l 4 (omega arith), le-ltb l 8 (omega arith), le-ltb l 12 (omega arith), le-ltb l 16 h)

  -- The code finds the word by the line's quotient, and the field by its rest.
  pub quarter-0 : l / 4 ≡ 0 → field_of e.from0 (l % 4) ≡ entry_at e l
  quarter-0 h = let i : l % 4 ≡ l = omega arith in rw (i, entry-0 (omega arith))

  pub quarter-1 : l / 4 ≡ 1 → field_of e.from4 (l % 4) ≡ entry_at e l
  quarter-1 h = let i : l % 4 ≡ l - 4 = omega arith in rw (i, entry-4 (omega arith) (omega arith))

  pub quarter-2 : l / 4 ≡ 2 → field_of e.from8 (l % 4) ≡ entry_at e l
  quarter-2 h = let i : l % 4 ≡ l - 8 = omega arith in rw (i, entry-8 (omega arith) (omega arith))

  pub quarter-3 : l / 4 ≡ 3 → field_of e.from12 (l % 4) ≡ entry_at e l
  quarter-3 h = let i : l % 4 ≡ l - 12 = omega arith in rw (i, entry-12 (omega arith) (omega arith))

  module _ (k : ℕ) where
    -- A write for one of the first four lines changes the first word alone.
    pub with-0 : l < 4 → with_entry e l k ≡ record { from0 = with_field e.from0 l k; from4 = e.from4; from8 = e.from8; from12 = e.from12 }
    unfolding with_entry
    with-0 h = rw (lt-ltb l 4 h)

    -- For one of the next four the second alone.
    pub with-4 : 4 ≤ l → l < 8 → with_entry e l k ≡ record { from0 = e.from0; from4 = with_field e.from4 (l - 4) k; from8 = e.from8; from12 = e.from12 }
    unfolding with_entry
    with-4 h m = rw (le-ltb l 4 h, lt-ltb l 8 m)

    -- For one of the next four the third alone.
    pub with-8 : 8 ≤ l → l < 12 → with_entry e l k ≡ record { from0 = e.from0; from4 = e.from4; from8 = with_field e.from8 (l - 8) k; from12 = e.from12 }
    unfolding with_entry
    with-8 h m = rw (le-ltb l 4 (omega arith), le-ltb l 8 h, lt-ltb l 12 m)

    -- For one of the last four the fourth alone.
    pub with-12 : 12 ≤ l → l < 16 → with_entry e l k ≡ record { from0 = e.from0; from4 = e.from4; from8 = e.from8; from12 = with_field e.from12 (l - 12) k }
    unfolding with_entry
    with-12 h m = rw (le-ltb l 4 (omega arith), le-ltb l 8 (omega arith), le-ltb l 12 h, lt-ltb l 16 m)

    -- For a line past the sixteen nothing.
    pub with-past : 16 ≤ l → with_entry e l k ≡ e
    unfolding with_entry
    with-past h = rw (le-ltb l 4 (omega arith), le-ltb l 8 (omega arith), le-ltb l 12 (omega arith), le-ltb l 16 h)

    -- The code finds the word, and in it the field, as it does to read it.
    pub with-quarter-0 : l / 4 ≡ 0 → record { from0 = with_field e.from0 (l % 4) k; from4 = e.from4; from8 = e.from8; from12 = e.from12 } ≡ with_entry e l k
    with-quarter-0 h = let i : l % 4 ≡ l = omega arith in rw (i, with-0 (omega arith))

    pub with-quarter-1 : l / 4 ≡ 1 → record { from0 = e.from0; from4 = with_field e.from4 (l % 4) k; from8 = e.from8; from12 = e.from12 } ≡ with_entry e l k
    with-quarter-1 h = let i : l % 4 ≡ l - 4 = omega arith in rw (i, with-4 (omega arith) (omega arith))

    pub with-quarter-2 : l / 4 ≡ 2 → record { from0 = e.from0; from4 = e.from4; from8 = with_field e.from8 (l % 4) k; from12 = e.from12 } ≡ with_entry e l k
    with-quarter-2 h = let i : l % 4 ≡ l - 8 = omega arith in rw (i, with-8 (omega arith) (omega arith))

    pub with-quarter-3 : l / 4 ≡ 3 → record { from0 = e.from0; from4 = e.from4; from8 = e.from8; from12 = with_field e.from12 (l % 4) k } ≡ with_entry e l k
    with-quarter-3 h = let i : l % 4 ≡ l - 12 = omega arith in rw (i, with-12 (omega arith) (omega arith))

pub ruleset quarters = (quarter-0, quarter-1, quarter-2, quarter-3, entry_past, with-quarter-0, with-quarter-1, with-quarter-2, with-quarter-3, with-past)
