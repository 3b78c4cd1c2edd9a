-- The lines of a store (the thesis' branching): what each begins from and how far it has come, which line a version got its number on, and what a version of a
-- line is called in the node area and found by in the register.
use Rattle.std.specs.Prelude.{Bool, true, false, ◌≡◌, List, ℕ, zero, suc, ◌+◌, ◌-◌, ◌*◌, ◌/◌, ◌%◌, ◌^◌, ◌<◌, min, ltb, replicate}
use Rattle.lines.specs.declared.Branch.{Branch}
use Rattle.lines.specs.declared.Entries.{Entries}

-- One of two, by a test.
abbrev pub pick : {A : Type 0} → Bool → A → A → A
pick true x y = x
pick false x y = y

-- ---- the lines

-- A line that has not begun; line 0 begins so.
abbrev pub no_branch : Branch
no_branch = record { source = record { 0 = 0 }; start = record { 0 = 0 }; assigned = record { 0 = 0 }; published = record { 0 = 0 }; blob = 0 }

-- A line's state with v as its last version, of so many pages; and with v as the last one published.
abbrev pub assigned_to : Branch → ℕ → ℕ → Branch
assigned_to b v blob = record { source = b.source; start = b.start; assigned = record { 0 = v }; published = b.published; blob = blob }

abbrev pub published_to : Branch → ℕ → Branch
published_to b v = record { source = b.source; start = b.start; assigned = b.assigned; published = record { 0 = v }; blob = b.blob }

-- The line on which version v of line l got its number, by the lines' states b: l where v is above the version that l begins from, else one of those that l comes from.
unfoldable pub owner_from : ℕ → (ℕ → Branch) → ℕ → ℕ → ℕ
owner_from zero b l v = l
owner_from (suc n) b l v = pick (ltb (b l).start.0 v) l (owner_from n b (min (b l).source.0 15) v)

abbrev pub owner_of : (ℕ → Branch) → ℕ → ℕ → ℕ
owner_of b l v = owner_from 15 b l v

-- Sound lines: line 0 begins from no version, and every other comes from a line before it, so that a version's line is found in at most 15 steps.
pub record Rooted (b : ℕ → Branch) : Type 0 where
  pub first : (b 0).start.0 ≡ 0
  pub earlier : (l : ℕ) → 0 < l → l < 16 → (b l).source.0 < l

-- ---- the numbers of versions

-- A version's number in the node area: line × 65,536 + version, 0 for none; and what it says.
abbrev pub number_of : ℕ → ℕ → ℕ
number_of l zero = 0
number_of l (suc v) = l % 65536 * 65536 + suc v % 65536

abbrev pub line_of : ℕ → ℕ
line_of c = c / 65536

abbrev pub version_of : ℕ → ℕ
version_of c = c % 65536

-- ---- numbers in a word

-- The i-th 16 bits of a word, and the word with them anew.
abbrev pub field_of : ℕ → ℕ → ℕ
field_of w i = w / 2 ^ (16 * i) % 65536

abbrev pub with_field : ℕ → ℕ → ℕ → ℕ
with_field w i k = w - field_of w i * 2 ^ (16 * i) + k % 65536 * 2 ^ (16 * i)

-- ---- the lines in a store: for each a word, and 4 bits in a word of sources

-- A line's state but its source in a word: start, assigned, published and blob, 16 bits each, the lowest first.
unfoldable pub packed : Branch → ℕ
packed b = b.start.0 % 65536 + 65536 * (b.assigned.0 % 65536 + 65536 * (b.published.0 % 65536 + 65536 * (b.blob % 65536)))

-- The state that a source and such a word say.
abbrev pub unpacked : ℕ → ℕ → Branch
unpacked source w = record {
  source = record { 0 = source };
  start = record { 0 = field_of w 0 };
  assigned = record { 0 = field_of w 1 };
  published = record { 0 = field_of w 2 };
  blob = field_of w 3;
}

-- The words of a new store's lines.
abbrev pub no_lines : List ℕ
no_lines = replicate 16 0

-- The i-th 4 bits of a word, and the word with them anew.
abbrev pub source_at : ℕ → ℕ → ℕ
source_at w i = w / 2 ^ (4 * i) % 16

abbrev pub with_source : ℕ → ℕ → ℕ → ℕ
with_source w i k = w - source_at w i * 2 ^ (4 * i) + k % 16 * 2 ^ (4 * i)

-- ---- the records of a line's own versions

abbrev pub no_entries : Entries
no_entries = record { from0 = 0; from4 = 0; from8 = 0; from12 = 0 }

-- Line l's entry, and the entries with that one anew; a word has four lines'.
unfoldable pub entry_at : Entries → ℕ → ℕ
entry_at e l =
    pick (ltb l 4) (field_of e.from0 l)
    (pick (ltb l 8) (field_of e.from4 (l - 4)) (pick (ltb l 12) (field_of e.from8 (l - 8)) (pick (ltb l 16) (field_of e.from12 (l - 12)) 0)))

unfoldable pub with_entry : Entries → ℕ → ℕ → Entries
with_entry e l k =
    pick (ltb l 4) (record { from0 = with_field e.from0 l k; from4 = e.from4; from8 = e.from8; from12 = e.from12 })
    (pick (ltb l 8) (record { from0 = e.from0; from4 = with_field e.from4 (l - 4) k; from8 = e.from8; from12 = e.from12 })
    (pick (ltb l 12) (record { from0 = e.from0; from4 = e.from4; from8 = with_field e.from8 (l - 8) k; from12 = e.from12 })
    (pick (ltb l 16) (record { from0 = e.from0; from4 = e.from4; from8 = e.from8; from12 = with_field e.from12 (l - 12) k }) e)))

-- Four numbers of 16 bits in a word, and the entries that are g's numbers for the lines.
abbrev pub word_of : (ℕ → ℕ) → ℕ
word_of g = g 0 + 65536 * (g 1 + 65536 * (g 2 + 65536 * g 3))

abbrev pub entries_of : (ℕ → ℕ) → Entries
entries_of g = record { from0 = word_of g; from4 = word_of (λ j. g (4 + j)); from8 = word_of (λ j. g (8 + j)); from12 = word_of (λ j. g (12 + j)) }
