-- The lines of a text, read one after the other. Assumes nothing.
use mathlib.Core.Path.{◌≡◌, refl, sym, ◌∙◌}
use mathlib.Core.Bool.{Bool, true, false, cond, not, ◌&&◌, and-true, and-false, and_assoc}
use mathlib.Core.List.{List, [], ◌∷◌, ◌++◌}
use Prim.Native.Nat.{ℕ, zero, suc, ◌+◌, ◌<◌, ◌≤◌}
use native.Mathlib.Omega.{arith}
use lib.Dec.{eqb}
use lib.ListN.{length, get_or, set, replicate, length-append}
use borrow.Author.Tests.{lt-ltb, le-ltb, ne_eqb}
use Rattle.std.proofs.Common.{Option, Some, None, Result, Ok, Err}
use Rattle.std.specs.List.{slice_split, onto_first}
use Rattle.text.specs.Text.{pick, line_feed, joined, text_lines}
use Rattle.table.specs.Refused.{answered}
use Rattle.table.specs.Table.{holds, first_refusal, window_rows}
use Rattle.windows.specs.declared.Window.{Window}
use Rattle.windows.specs.declared.Windows.{Windows}
use Rattle.windows.specs.Windows.{no_window, no_windows, placed}
use Rattle.windows.specs.Listed.{line_entry, is_window, all_windows, ended, entered, windows_in, text_number, listed_of}
use Rattle.windows.proofs.Placed.{placed-more}

-- the parts at the line feeds
abbrev pub parts : List ℕ → List (List ℕ)
parts s = slice_split (λ b. eqb b line_feed) s

picked : (t : Bool) (b : ℕ) (ls : List (List ℕ)) → pick t ([] ∷ ls) (joined b ls) ≡ cond t ([] ∷ ls) (onto_first b ls)
picked true b ls = refl
picked false b [] = refl
picked false b (l ∷ ls) = refl

lines-parts : (s : List ℕ) → text_lines (s ++ (line_feed ∷ [])) ≡ parts s
lines-parts [] = refl
lines-parts (b ∷ s) = rw (lines-parts s) (picked (eqb b line_feed) b (parts s))

-- a text ends as its last byte says
ended-last : (s : List ℕ) (b : ℕ) → ended (s ++ (b ∷ [])) ≡ eqb b line_feed
unfolding ended
ended-last [] b = refl
ended-last (a ∷ []) b = refl
ended-last (a ∷ c ∷ s) b = ended-last (c ∷ s) b

-- one line more
all-more : (ls : List (List ℕ)) (l : List ℕ) → all_windows (ls ++ (l ∷ [])) ≡ (all_windows ls && is_window (line_entry l))
unfolding all_windows
all-more [] l = and-true (is_window (line_entry l))
all-more (m ∷ ls) l = rw (all-more ls l) (sym (and_assoc (is_window (line_entry m)) (all_windows ls) (is_window (line_entry l))))

entered-append : (e : Option Window) (ws vs : List Window) → entered e (ws ++ vs) ≡ entered e ws ++ vs
entered-append None ws vs = refl
entered-append (Some w) ws vs = refl

windows-more : (ls : List (List ℕ)) (l : List ℕ) (w : Window) → line_entry l ≡ Some w → windows_in (ls ++ (l ∷ [])) ≡ windows_in ls ++ (w ∷ [])
unfolding windows_in
windows-more [] l w e = rw e
windows-more (m ∷ ls) l w e = rw (windows-more ls l w e) (entered-append (line_entry m) (windows_in ls) (w ∷ []))

all-wrong : (ls : List (List ℕ)) (i : ℕ) (l : List ℕ) → i < length ls → l ≡ get_or ls i l → line_entry l ≡ None → all_windows ls ≡ false
unfolding all_windows
all-wrong [] i l h e n = absurd (omega arith)
all-wrong (m ∷ ls) zero l h e n = rw (← e, n)
all-wrong (m ∷ ls) (suc i) l h e n = rw (all-wrong ls i l (omega arith) e n) (and-false (is_window (line_entry m)))

-- what a text is read as, by its lines, each of which has its line feed
abbrev pub read_as : List (List ℕ) → Result Windows ℕ
read_as ls = answered (first_refusal (window_rows (not (all_windows ls)) (length ls))) (placed (windows_in ls))

lines_read : (s : List ℕ) → listed_of (s ++ (line_feed ∷ [])) ≡ read_as (parts s)
unfolding text_number
lines_read s = rw (ended-last, lines-parts)

-- the empty text, and one that ends in another byte
pub empty_read : (t : List ℕ) → length t ≡ 0 → listed_of t ≡ Ok no_windows
unfolding text_number ended all_windows windows_in first_refusal window_rows holds placed
empty_read [] h = refl
empty_read (b ∷ t) h = absurd (omega arith)

pub unended_read : (s : List ℕ) (b : ℕ) → (b ≡ line_feed → ⊥) → listed_of (s ++ (b ∷ [])) ≡ Err 23
unfolding text_number first_refusal window_rows holds
unended_read s b n = rw (ended-last, ne_eqb b line_feed n)

-- a line that is no window
pub wrong_read : (s : List ℕ) (i : ℕ) (l : List ℕ) → (i < length (parts s)) × (l ≡ get_or (parts s) i l) → line_entry l ≡ None
    → listed_of (s ++ (line_feed ∷ [])) ≡ Err 23
unfolding first_refusal window_rows holds
wrong_read s i l at n = lines_read s ∙ rw (all-wrong (parts s) i l at.0 at.1 n)

-- these lines are windows, so many, and the places hold them unless they are too many
pub record Passed (places : List Window) (n : ℕ) (ls : List (List ℕ)) : Type 0 where
  pub counted : length ls ≡ n
  pub each : length (windows_in ls) ≡ n
  pub good : all_windows ls ≡ true
  pub stored : n ≤ 32 → places ≡ (placed (windows_in ls)).places

pub none_passed : Passed (replicate 32 no_window) 0 []
unfolding placed all_windows windows_in
none_passed = record { counted = refl; each = refl; good = refl; stored = λ _. refl }

-- one window more
module _ {places : List Window} {n : ℕ} {ls : List (List ℕ)} (r : Passed places n ls) (l : List ℕ) (w : Window) (e : line_entry l ≡ Some w) where
  more : windows_in (ls ++ (l ∷ [])) ≡ windows_in ls ++ (w ∷ [])
  more = windows-more ls l w e

  good_more : all_windows (ls ++ (l ∷ [])) ≡ true
  good_more = rw (all-more, r.good, e)

  pub stored_more : n < 32 → Passed (set places n w) (n + 1) (ls ++ (l ∷ []))
  stored_more h = record {
    counted = simp length-append (omega (arith, r.counted));
    each = rw more (simp length-append (omega (arith, r.each)));
    good = good_more;
    stored = λ _. rw (more, r.stored (omega arith), ← r.each) (placed-more (windows_in ls) w (omega (arith, r.each)));
  }

  pub counted_more : 32 ≤ n → Passed places (n + 1) (ls ++ (l ∷ []))
  counted_more h = record {
    counted = simp length-append (omega (arith, r.counted));
    each = rw more (simp length-append (omega (arith, r.each)));
    good = good_more;
    stored = λ k. absurd (omega arith);
  }

-- all lines are passed: too many, or not
module _ {places : List Window} {n : ℕ} {ls : List (List ℕ)} (r : Passed places n ls) (s : List ℕ) (all : ls ≡ parts s) where
  pub many_read : 32 < n → listed_of (s ++ (line_feed ∷ [])) ≡ Err 24
  unfolding first_refusal window_rows holds
  many_read h = lines_read s ∙ rw (← all, r.good, r.counted, lt-ltb 32 n h)

  pub all_read : n ≤ 32 → listed_of (s ++ (line_feed ∷ [])) ≡ Ok (record { places = places })
  unfolding first_refusal window_rows holds
  all_read h = lines_read s ∙ rw (← all, r.good, r.counted, le-ltb 32 n h, r.stored h)

pub ruleset reads = (empty_read, unended_read)
