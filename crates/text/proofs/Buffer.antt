-- Writing into a buffer piece by piece. Assumes nothing.
use mathlib.Core.Path.{◌≡◌, sym, ap, ◌∙◌}
use mathlib.Core.List.{List, [], ◌∷◌, ◌++◌, append_assoc}
use Prim.Native.Nat.{ℕ, suc, ◌+◌, ◌<◌, ◌≤◌}
use native.Mathlib.Nat.{add-zero, zero-add, add_assoc}
use native.Mathlib.Numerals.{add-one}
use native.Mathlib.Omega.{arith}
use lib.ListN.{length, take, drop, get_or, set, length-append, take-append-drop}
use lib.Seq.{drop-cons, take-suc-set, drop-set-lt, take-set-le, drop-drop, drop_at, take_at, set_split, length-take-le, append_snoc, drop-append-add}
use borrow.Author.Tests.{le-leb, lt-leb}
use Rattle.text.specs.Buffer.{put_at, front, wrote}

-- no bytes change nothing
pub put-nil : (at : ℕ) (l : List ℕ) → put_at at [] l ≡ l
unfolding put_at
put-nil at l = rw (add-zero, take-append-drop)

-- the first byte, then the rest after it
pub put-cons : (at x : ℕ) (s l : List ℕ) → at < length l → put_at (at + 1) s (set l at x) ≡ put_at at (x ∷ s) l
unfolding put_at
put-cons at x s l h =
    let n : suc at + length s ≡ at + suc (length s) = omega arith in
    rw (add-one, take-suc-set l at x h, drop-set-lt (suc at + length s) l at x (omega arith), n, append_snoc)

-- the byte at index i of w, then the rest of w
pub put-turn : (w l : List ℕ) (i : ℕ) → i < length w → i < length l → put_at (i + 1) (drop (i + 1) w) (set l i (get_or w i 0)) ≡ put_at i (drop i w) l
put-turn w l i h k =
    put-cons i (get_or w i 0) (drop (i + 1) w) l k
    ∙ ap (λ (s : List ℕ). put_at i s l) (let e : get_or w i 0 ∷ drop (i + 1) w ≡ drop i w = rw (add-one, drop-cons w i 0 h) in e)

-- a piece, and another after it
pub put-append : (at : ℕ) (p q l : List ℕ) → at + length p ≤ length l → put_at (at + length p) q (put_at at p l) ≡ put_at at (p ++ q) l
unfolding put_at
put-append at p q l h =
    let whole : take at l ++ (p ++ drop (at + length p) l) ≡ (take at l ++ p) ++ drop (at + length p) l = sym (append_assoc (take at l) p _) in
    let n : length (take at l ++ p) ≡ at + length p = simp (length-append, length-take-le at l (omega arith)) in
    let after : drop (at + length p + length q) ((take at l ++ p) ++ drop (at + length p) l) ≡ drop (at + length p + length q) l =
    ap (λ (k : ℕ). drop (k + length q) ((take at l ++ p) ++ drop (at + length p) l)) (sym n)
    ∙ drop-append-add (take at l ++ p) (drop (at + length p) l) (length q)
    ∙ drop-drop (length q) (at + length p) l in
    rw (whole, take_at (take at l ++ p) (drop (at + length p) l) (at + length p) n, after, length-append, add_assoc)
    (simp append_assoc)

-- the last byte first, then the rest before it
pub put-snoc : (at x : ℕ) (p l : List ℕ) → at + length p < length l → put_at at p (set l (at + length p) x) ≡ put_at at (p ++ (x ∷ [])) l
unfolding put_at
put-snoc at x p l h =
    let n : at + length (p ++ (x ∷ [])) ≡ suc (at + length p) = simp length-append (omega arith) in
    let after : drop (at + length p) (set l (at + length p) x) ≡ x ∷ drop (suc (at + length p)) l =
    ap (drop (at + length p)) (set_split l (at + length p) x h)
    ∙ drop_at (take (at + length p) l) (x ∷ drop (suc (at + length p)) l) (at + length p) (length-take-le _ l (omega arith)) in
    rw (n, take-set-le at l (at + length p) x (omega arith), after, append_snoc)

-- what does not fit, and what does
pub front-past : (s l : List ℕ) → length l < length s → (0 ≡ wrote s l) × (l ≡ front s l)
unfolding front wrote
front-past s l h = (rw (lt-leb (length s) (length l) h), rw (lt-leb (length s) (length l) h))

pub front_fits : (s l : List ℕ) → length s ≤ length l → put_at 0 s l ≡ front s l
unfolding front put_at
front_fits s l h = rw (le-leb (length s) (length l) h, zero-add)

pub wrote-fits : (s l : List ℕ) → length s ≤ length l → wrote s l ≡ length s
unfolding wrote
wrote-fits s l h = rw (le-leb (length s) (length l) h)

pub front-none : (l : List ℕ) → l ≡ front [] l
unfolding front
front-none l = rw (le-leb 0 (length l) (omega arith))
