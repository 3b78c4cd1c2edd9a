-- The entries as sixteen numbers: reading one gives it back, and writing one changes just that one. Assumes nothing.
use mathlib.Core.Path.{◌≡◌, sym, ap, ◌∙◌}
use mathlib.Core.Logic.{◌≢◌, inl, inr}
use Prim.Native.Nat.{ℕ, ◌+◌, ◌-◌, ◌<◌, ◌≤◌}
use native.Mathlib.Omega.{arith}
use Rattle.tree.proofs.Meets.{lt-or-le}
use Rattle.lines.specs.Lines.{field_of, with_field, no_entries, entry_at, with_entry, word_of, entries_of}
use Rattle.lines.specs.declared.Entries.{Entries}
use Rattle.lines.proofs.Words.{four, entry-0, entry-4, entry-8, entry-12, entry_past, with-0, with-4, with-8, with-12}

-- ---- one word

module _ (g : ℕ → ℕ) where
  -- A word's fields are the numbers that it is made of.
  word_at : ((j : ℕ) → j < 4 → g j < 65536) → (i : ℕ) → i < 4 → field_of (word_of g) i ≡ g i
  word_at low =
      let a = low 0 (omega arith) in
      let b = low 1 (omega arith) in
      let c = low 2 (omega arith) in
      let d = low 3 (omega arith) in
      four (λ i. field_of (word_of g) i ≡ g i) (omega arith) (omega arith) (omega arith) (omega arith)

  module _ (g' : ℕ → ℕ) where
    -- Equal numbers make equal words.
    word_same : ((j : ℕ) → j < 4 → g j ≡ g' j) → word_of g ≡ word_of g'
    word_same e = omega (arith, e 0 (omega arith), e 1 (omega arith), e 2 (omega arith), e 3 (omega arith))

    -- A word with one field anew is made of the same numbers but that one.
    word-with : (k : ℕ) → k < 65536 → ((j : ℕ) → j < 4 → g j < 65536) → (i : ℕ) → i < 4 → g' i ≡ k → ((j : ℕ) → j < 4 → j ≢ i → g' j ≡ g j)
        → with_field (word_of g) i k ≡ word_of g'
    word-with k fits low =
        let a = low 0 (omega arith) in
        let b = low 1 (omega arith) in
        let c = low 2 (omega arith) in
        let d = low 3 (omega arith) in
        four (λ i. g' i ≡ k → ((j : ℕ) → j < 4 → j ≢ i → g' j ≡ g j) → with_field (word_of g) i k ≡ word_of g')
        (λ new old. omega (arith, old 1 (omega arith) (omega arith), old 2 (omega arith) (omega arith), old 3 (omega arith) (omega arith)))
        (λ new old. omega (arith, old 0 (omega arith) (omega arith), old 2 (omega arith) (omega arith), old 3 (omega arith) (omega arith)))
        (λ new old. omega (arith, old 0 (omega arith) (omega arith), old 1 (omega arith) (omega arith), old 3 (omega arith) (omega arith)))
        (λ new old. omega (arith, old 0 (omega arith) (omega arith), old 1 (omega arith) (omega arith), old 2 (omega arith) (omega arith)))

-- ---- four words

-- A line is one of a word's four.
by_word : {P : Type 0} (l : ℕ) → (l < 4 → P) → (4 ≤ l → l < 8 → P) → (8 ≤ l → l < 12 → P) → (12 ≤ l → l < 16 → P) → l < 16 → P
by_word l p0 p4 p8 p12 h = elim (lt-or-le l 4) [
  | inl a ↦ p0 a
  | inr a ↦
      elim (lt-or-le l 8) [
        | inl b ↦ p4 a b
        | inr b ↦ elim (lt-or-le l 12) [ inl c ↦ p8 b c | inr c ↦ p12 c h ]
      ]
]

-- Entries are equal by their words.
by-words : {a b c d a' b' c' d' : ℕ} → a ≡ a' → b ≡ b' → c ≡ c' → d ≡ d'
    → ◌≡◌ {A = Entries} (record { from0 = a; from4 = b; from8 = c; from12 = d }) (record { from0 = a'; from4 = b'; from8 = c'; from12 = d' })
by-words p q r s = λ i. record { from0 = p i; from4 = q i; from8 = r i; from12 = s i }

module _ (g : ℕ → ℕ) where
  -- Only the numbers of the sixteen lines count.
  pub entries-same : (g' : ℕ → ℕ) → ((j : ℕ) → j < 16 → g j ≡ g' j) → entries_of g ≡ entries_of g'
  entries-same g' e =
      by-words
      (word_same g g' (λ j h. e j (omega arith)))
      (word_same (λ j. g (4 + j)) (λ j. g' (4 + j)) (λ j h. e (4 + j) (omega arith)))
      (word_same (λ j. g (8 + j)) (λ j. g' (8 + j)) (λ j h. e (8 + j) (omega arith)))
      (word_same (λ j. g (12 + j)) (λ j. g' (12 + j)) (λ j h. e (12 + j) (omega arith)))

  module _ (low : (j : ℕ) → j < 16 → g j < 65536) (l : ℕ) (line : l < 16) where
    -- The line's field of the word from line n on, when it is there, is its number.
    at-word : (n : ℕ) → n ≤ 12 → n ≤ l → l < n + 4 → field_of (word_of (λ j. g (n + j))) (l - n) ≡ g l
    at-word n a b c = word_at (λ j. g (n + j)) (λ j h. low (n + j) (omega arith)) (l - n) (omega arith) ∙ ap g (omega arith)

    -- A line's entry is its number.
    pub entry-of : entry_at (entries_of g) l ≡ g l
    entry-of = let e = entries_of g in
        by_word l
        (λ a. entry-0 e l a ∙ word_at g (λ j h. low j (omega arith)) l a)
        (λ a b. entry-4 e l a b ∙ at-word 4 (omega arith) a b)
        (λ a b. entry-8 e l a b ∙ at-word 8 (omega arith) a b)
        (λ a b. entry-12 e l a b ∙ at-word 12 (omega arith) a b)
        line

    module _ (k : ℕ) (fits : k < 65536) (g' : ℕ → ℕ) (new : g' l ≡ k) (old : (j : ℕ) → j < 16 → j ≢ l → g' j ≡ g j) where
      -- The word from line n on, where it has the line, with its field anew.
      with-word : (n : ℕ) → n ≤ 12 → n ≤ l → l < n + 4 → with_field (word_of (λ j. g (n + j))) (l - n) k ≡ word_of (λ j. g' (n + j))
      with-word n a b c =
          word-with (λ j. g (n + j)) (λ j. g' (n + j)) k fits (λ j h. low (n + j) (omega arith)) (l - n) (omega arith)
          (ap g' (omega arith) ∙ new)
          (λ j h other. old (n + j) (omega arith) (λ same. other (omega arith)))

      -- A word that does not have the line stays.
      keep_word : (n : ℕ) → ((j : ℕ) → j < 4 → (n + j < 16) × (n + j ≢ l)) → word_of (λ j. g (n + j)) ≡ word_of (λ j. g' (n + j))
      keep_word n other = word_same (λ j. g (n + j)) (λ j. g' (n + j)) (λ j h. sym (old (n + j) (other j h).0 (other j h).1))

      -- The entries with a line's anew are those of the numbers with that one anew.
      pub with-of : with_entry (entries_of g) l k ≡ entries_of g'
      with-of = let e = entries_of g in
          by_word l
          (λ a. with-0 e l k a ∙ by-words (word-with g g' k fits (λ j h. low j (omega arith)) l a new (λ j h other. old j (omega arith) other)) (keep_word 4 (omega arith)) (keep_word 8 (omega arith)) (keep_word 12 (omega arith)))
          (λ a b. with-4 e l k a b ∙ by-words (keep_word 0 (omega arith)) (with-word 4 (omega arith) a b) (keep_word 8 (omega arith)) (keep_word 12 (omega arith)))
          (λ a b. with-8 e l k a b ∙ by-words (keep_word 0 (omega arith)) (keep_word 4 (omega arith)) (with-word 8 (omega arith) a b) (keep_word 12 (omega arith)))
          (λ a b. with-12 e l k a b ∙ by-words (keep_word 0 (omega arith)) (keep_word 4 (omega arith)) (keep_word 8 (omega arith)) (with-word 12 (omega arith) a b))
          line

-- No line has an entry in the empty entries.
pub entry-none : (l : ℕ) → entry_at no_entries l ≡ 0
entry-none l = elim (lt-or-le l 16) [ inl h ↦ entry-of (λ _. 0) (λ j k. omega arith) l h | inr h ↦ entry_past no_entries l h ]
