-- Feeding a text byte by byte hands out its lines. Assumes nothing.
use Rattle.std.proofs.Common.{Option, None, Some}
use mathlib.Core.Path.{◌≡◌, refl, sym, ap, ◌∙◌}
use mathlib.Core.Bool.{Bool, true, false}
use mathlib.Core.List.{List, [], ◌∷◌, ◌++◌, map, append-nil}
use Prim.Native.Nat.{ℕ, ◌+◌, ◌<◌, ◌≤◌}
use native.Mathlib.Nat.{lt_of_not-le}
use native.Mathlib.Decide.{dec_le}
use native.Mathlib.Omega.{arith}
use lib.ListN.{length, set, length-append}
use lib.Seq.{take-append_seam, set-append_seam, append_snoc, set_out}
use lib.Dec.{ltb, eqb, eqb-suc-zero}
use borrow.Author.Tests.{le-leb, lt-leb, lt-ltb, le-ltb}
use Rattle.text.specs.Text.{line_feed, joined, text_lines}
use Rattle.parse.specs.Cut.{fresh, keeping, over, stored, grown, fed_by, kept_by, unended_in, handed, held, meant_handed, cut_lines, CutMeans}
use Rattle.parse.specs.Steps.{meant_of}
use Rattle.parse.specs.declared.Cutter.{Cutter}

-- lines of which the first begins with w
abbrev lone : List ℕ → List (List ℕ)
lone [] = []
lone (a ∷ w) = (a ∷ w) ∷ []

abbrev begun : List (List ℕ) → List ℕ → List (List ℕ)
begun [] w = lone w
begun (f ∷ fs) w = (w ++ f) ∷ fs

lone-snoc : (w : List ℕ) (b : ℕ) → lone (w ++ (b ∷ [])) ≡ (w ++ (b ∷ [])) ∷ []
lone-snoc [] b = refl
lone-snoc (a ∷ w) b = refl

begun-joined : (ls : List (List ℕ)) (w : List ℕ) (b : ℕ) → begun (joined b ls) w ≡ begun ls (w ++ (b ∷ []))
begun-joined [] w b = sym (lone-snoc w b)
begun-joined (f ∷ fs) w b = ap {B = List (List ℕ)} (λ (x : List ℕ). x ∷ fs) (sym (append_snoc w b f))

begun-nil : (ls : List (List ℕ)) → begun ls [] ≡ ls
begun-nil [] = refl
begun-nil (f ∷ fs) = refl

-- the cutter with the bytes w kept
abbrev kept : List ℕ → Cutter
kept w = keeping (length w)

-- one byte, at a line feed and elsewhere
module _ (b : ℕ) (t : List ℕ) (c : Cutter) (l : List ℕ) where
  fed-end : eqb b line_feed ≡ true → cut_lines (b ∷ t) c l ≡ held c l ∷ cut_lines t fresh l
  unfolding fed_by kept_by
  fed-end e = simp e

  fed-more : eqb b line_feed ≡ false → cut_lines (b ∷ t) c l ≡ cut_lines t (grown c.kept (length l)) (stored c.kept b l)
  unfolding fed_by kept_by
  fed-more e = simp e

lines_end : (b : ℕ) (t : List ℕ) → eqb b line_feed ≡ true → text_lines (b ∷ t) ≡ [] ∷ text_lines t
lines_end b t e = rw e

lines_more : (b : ℕ) (t : List ℕ) → eqb b line_feed ≡ false → text_lines (b ∷ t) ≡ joined b (text_lines t)
lines_more b t e = rw e

handed-some : (w : List ℕ) (room : ℕ) → length w ≤ room → handed room w ≡ Some w
handed-some w room h = rw (le-leb (length w) room h)

handed-none : (w : List ℕ) (room : ℕ) → room < length w → handed room w ≡ None
handed-none w room h = rw (lt-leb (length w) room h)

held_kept : (w r : List ℕ) → held (kept w) (w ++ r) ≡ handed (length (w ++ r)) w
held_kept w r = rw (take-append_seam w r) (sym (handed-some w (length (w ++ r)) (simp length-append (omega arith))))

-- what is handed out of the text t with the bytes w kept; and of a line that is over, of which w is what was read
abbrev Keeps : List ℕ → Type 0
Keeps t = (w r : List ℕ) → cut_lines t (kept w) (w ++ r) ≡ map (handed (length (w ++ r))) (begun (text_lines t) w)

abbrev Overs : List ℕ → Type 0
Overs t = (w l : List ℕ) → length l < length w → cut_lines t over l ≡ map (handed (length l)) (begun (text_lines t) w)

keeps-none : Keeps []
unfolding unended_in
keeps-none [] r = refl
keeps-none (a ∷ w) r = rw (eqb-suc-zero (length w)) (ap {B = List (Option (List ℕ))} (λ (x : Option (List ℕ)). x ∷ []) (held_kept (a ∷ w) r))

overs-none : Overs []
unfolding unended_in
overs-none [] l h = let z : ⊥ = omega arith in elim z [ ]
overs-none (a ∷ w) l h = rw (handed-none (a ∷ w) (length l) h)

module _ (b : ℕ) (t : List ℕ) (keeps : Keeps t) (overs : Overs t) where
  -- the next line begins
  next : (l : List ℕ) → cut_lines t fresh l ≡ map (handed (length l)) (text_lines t)
  next l = keeps [] l ∙ ap (map (handed (length l))) (begun-nil (text_lines t))

  keeps-more : (w r : List ℕ) (e : Bool) → eqb b line_feed ≡ e → cut_lines (b ∷ t) (kept w) (w ++ r) ≡ map (handed (length (w ++ r))) (begun (text_lines (b ∷ t)) w)
  keeps-more w r true e =
      fed-end b t (kept w) (w ++ r) e
      ∙ rw (lines_end b t e, append-nil w, held_kept w r, next (w ++ r))
  keeps-more w [] false e =
      let full : set (w ++ []) (length w) b ≡ w ++ [] = set_out (w ++ []) (length w) b (simp append-nil (omega arith)) in
      let past-now : ltb (length w) (length (w ++ [])) ≡ false = le-ltb (length w) (length (w ++ [])) (simp append-nil (omega arith)) in
      fed-more b t (kept w) (w ++ []) e
      ∙ rw (lines_more b t e, past-now, full, begun-joined (text_lines t) w b) (overs (w ++ (b ∷ [])) (w ++ []) (simp length-append (omega arith)))
  keeps-more w (x ∷ r) false e =
      let stored : set (w ++ (x ∷ r)) (length w) b ≡ (w ++ (b ∷ [])) ++ r = set-append_seam w x r b ∙ sym (append_snoc w b r) in
      let room : ltb (length w) (length (w ++ (x ∷ r))) ≡ true = lt-ltb (length w) (length (w ++ (x ∷ r))) (simp length-append (omega arith)) in
      let one : length w + 1 ≡ length (w ++ (b ∷ [])) = simp length-append (omega arith) in
      let long : length (w ++ (x ∷ r)) ≡ length ((w ++ (b ∷ [])) ++ r) = simp length-append (omega arith) in
      fed-more b t (kept w) (w ++ (x ∷ r)) e
      ∙ rw (lines_more b t e, room, stored, one, long, begun-joined (text_lines t) w b) (keeps (w ++ (b ∷ [])) r)

  overs-more : (w l : List ℕ) → length l < length w → (e : Bool) → eqb b line_feed ≡ e → cut_lines (b ∷ t) over l ≡ map (handed (length l)) (begun (text_lines (b ∷ t)) w)
  overs-more w l h true e = fed-end b t over l e ∙ rw (lines_end b t e, append-nil w, handed-none w (length l) h, next l)
  overs-more w l h false e =
      fed-more b t over l e
      ∙ rw (lines_more b t e, begun-joined (text_lines t) w b) (overs (w ++ (b ∷ [])) l (simp length-append (omega arith)))

both : (t : List ℕ) → Keeps t × Overs t
both [] = (keeps-none, overs-none)
both (b ∷ t) =
    let k = (both t).0 in
    let o = (both t).1 in
    (λ w r. keeps-more b t k o w r (eqb b line_feed) refl, λ w l h. overs-more b t k o w l h (eqb b line_feed) refl)

-- Feeding a text from a fresh cutter hands out the text's lines in order, each with its bytes or, where it is longer than the buffer, as over.
pub cut-lines : (t l : List ℕ) → cut_lines t fresh l ≡ map (handed (length l)) (text_lines t)
cut-lines t l = (both t).0 [] l ∙ ap (map (handed (length l))) (begun-nil (text_lines t))

-- With a buffer of 600 bytes the lines that are handed out mean what the text's lines mean.
handed-means : (f : List ℕ) → meant_handed (handed 600 f) ≡ meant_of f
unfolding meant_of
handed-means f = elim (dec_le (length f) 600) [
  | yes h ↦ rw (handed-some f 600 h)
  | no h ↦ rw (handed-none f 600 (lt_of_not-le h), lt-leb (length f) 600 (lt_of_not-le h))
]

all-mean : (fs : List (List ℕ)) → map meant_handed (map (handed 600) fs) ≡ map meant_of fs
all-mean [] = refl
all-mean (f ∷ fs) = rw (handed-means f, all-mean fs)

pub cut-means : CutMeans
cut-means t l h = rw (cut-lines t l, h) (all-mean (text_lines t))
