-- The bytes of a version, by chunks that lie within a page, and a buffer that they fill from its front on. Assumes nothing.
use mathlib.Core.Path.{◌≡◌, refl, sym, ap, ◌∙◌}
use mathlib.Core.Bool.{false}
use mathlib.Core.List.{List, ◌++◌}
use Prim.Native.Nat.{ℕ, zero, suc, ◌+◌, ◌*◌, ◌-◌, ◌≤◌, ◌<◌, min}
use native.Mathlib.Nat.{add-zero, zero-add, suc-add, mul-suc, mul-one, mul-le-mul_left, mul-add, add-mul, mul_comm}
use native.Mathlib.Omega.{arith}
use borrow.Author.Tests.{le-leb}
use lib.ListN.{length, take, drop, length-append, length-drop, take-append-drop}
use lib.Seq.{drop-cons, take-append_seam, drop-drop, drop-append-add, drop-append-le, take-append-le, length-take-le}
use lib.Arith.{digits_div, digits_mod}
use Rattle.pages.specs.Pages.{put, part}
use Rattle.std.proofs.Common.{Option, Some, None, Result, Ok, Err}
use Rattle.std.specs.Result.{IsOk}
use Rattle.table.specs.declared.Refusal.{Refusal}
use Rattle.table.specs.Refused.{numbered}
use Rattle.versions.specs.declared.Store.{Store}
use Rattle.versions.specs.Store.{Areas}
use Rattle.walk.specs.FindPage.{or_zero, page_number_of, find_page, is_lost}
use Rattle.read.specs.Read.{byte_of, bytes_from}
use Rattle.read.specs.Range.{Readable, found_out}
use Rattle.read.specs.declared.Pages.{Pages}
use Rattle.walk.proofs.Ends.{found_inside}
use Rattle.read.proofs.Lost.{none-lost}

-- A buffer whose front is x, of d elements, with y put after it.
grow : (x b y : List ℕ) (d n : ℕ) → length x ≡ d → length y ≡ n → d + n ≤ length b → put (x ++ drop d b) d y ≡ (x ++ y) ++ drop (d + n) b
unfolding put
grow x b y d n ex ey h =
    let fit : length x + n ≤ length (x ++ drop (length x) b) = simp (length-append, length-drop) (omega arith) in
    rw (← ex, ey, le-leb (length x + n) (length (x ++ drop (length x) b)) fit, take-append_seam, drop-append-add, drop-drop)

module _ (size count : ℕ) (a : Areas) (c : ℕ) where
  pub length-bytes : (j n : ℕ) → length (bytes_from size count a c j n) ≡ n
  unfolding bytes_from
  length-bytes j zero = refl
  length-bytes j (suc n) = ap suc (length-bytes (suc j) n)

  bytes-add : (j m n : ℕ) → bytes_from size count a c j (m + n) ≡ bytes_from size count a c j m ++ bytes_from size count a c (j + m) n
  unfolding bytes_from
  bytes-add j zero n = rw (zero-add, add-zero)
  bytes-add j (suc m) n =
      let e : suc j + m ≡ j + suc m = omega arith in
      rw (suc-add, bytes-add (suc j) m n, e)

  -- n bytes of page q, from its byte r on
  chunk : (q r n : ℕ) → r + n ≤ size → size * or_zero (page_number_of count a c q) + r + n ≤ length a.pages
      → take n (drop (size * or_zero (page_number_of count a c q) + r) a.pages) ≡ bytes_from size count a c (q * size + r) n
  unfolding bytes_from byte_of
  chunk q r zero h k = refl
  chunk q r (suc n) h k =
      let at = size * or_zero (page_number_of count a c q) + r in
      let within : r < size = omega arith in
      let next : suc at ≡ size * or_zero (page_number_of count a c q) + suc r = omega arith in
      let next-byte : suc (q * size + r) ≡ q * size + suc r = omega arith in
      rw (drop-cons a.pages at 0 (omega arith), digits_div q within, digits_mod q within, next, next-byte, chunk q (suc r) n (omega arith) (omega arith))

  -- One turn of the copy: n bytes more.
  pub grow-bytes : (b : List ℕ) (d n j : ℕ) → d + n ≤ length b
      → put (bytes_from size count a c j d ++ drop d b) d (bytes_from size count a c (j + d) n) ≡ bytes_from size count a c j (d + n) ++ drop (d + n) b
  grow-bytes b d n j h = rw (bytes-add j d n) (grow (bytes_from size count a c j d) b (bytes_from size count a c (j + d) n) d n (length-bytes j d) (length-bytes (j + d) n) h)

-- What lies within the first `size` elements does not need the others.
front : (d : List ℕ) (size r n : ℕ) → size ≤ length d → r + n ≤ size → take n (drop r d) ≡ take n (drop r (take size d))
front d size r n h k =
    let t = length-take-le size d h in
    let long : n ≤ length (drop r (take size d)) = simp (length-drop, t) (omega arith) in
    ap (λ (x : List ℕ). take n (drop r x)) (sym (take-append-drop size d))
    ∙ rw (drop-append-le r (take size d) (drop size d) (omega arith), take-append-le n (drop r (take size d)) (drop size d) long)

-- A part of a part that lies within it.
part-in-part : (l : List ℕ) (at size r n : ℕ) → at + size ≤ length l → r + n ≤ size → part (part l at size) r n ≡ take n (drop (at + r) l)
unfolding part
part-in-part l at size r n h k =
    let long : size ≤ length (drop at l) = simp length-drop (omega arith) in
    rw (le-leb (at + size) (length l) h, length-take-le size (drop at l) long, le-leb (r + n) size k)
    (sym (front (drop at l) size r n long k) ∙ ap (take n) (drop-drop r at l))

found_number : (x : Option ℕ) (n : ℕ) → found_out x ≡ Ok n → n ≡ or_zero x
found_number None n e = cc
found_number (Some m) n e = cc

found_is : (x : Option ℕ) (r : Result ℕ Refusal) → numbered r ≡ found_out x → is_lost x ≡ false → IsOk r
found_is None r e f = cc
found_is (Some n) (Ok m) e f = refl
found_is (Some n) (Err k) e f = cc

module _ (s : Store) (a : Areas) (c : ℕ) (t : Pages) (b : List ℕ) where
  abbrev S : ℕ
  S = s.size

  -- The first byte, and how many are copied before the page after i pages.
  abbrev j : ℕ
  j = t.first.0 * S + t.from

  abbrev done : ℕ → ℕ
  done i = min (S * i - t.from) (length b)

  -- The buffer then.
  abbrev pub filled : ℕ → List ℕ
  filled i = bytes_from S s.pages a c j (done i) ++ drop (done i) b

  module _ (number : ℕ) (need : Readable s a c t number (length b)) where
    -- A page of the range is found, and lies within the page area.
    page-in : (i : ℕ) → i < t.count → S * or_zero (page_number_of s.pages a c (t.first.0 + i)) + S ≤ length a.pages
    unfolding page_number_of
    page-in i h =
        let x = find_page a c (t.first.0 + i) in
        let k = mul-le-mul_left S (found_inside s.pages x (none-lost s.pages a c t.first.0 t.count i need.found h)) in
        omega (arith, rw mul-suc at k, need.area)

    -- n bytes of it, from its byte r on, put behind those that are there.
    turn : (i r n d : ℕ) → i < t.count → r + n ≤ S → j + d ≡ (t.first.0 + i) * S + r → d + n ≤ length b
        → put (bytes_from S s.pages a c j d ++ drop d b) d (part (part a.pages (S * or_zero (page_number_of s.pages a c (t.first.0 + i))) S) r n)
        ≡ bytes_from S s.pages a c j (d + n) ++ drop (d + n) b
    turn i r n d h k e f =
        let m = or_zero (page_number_of s.pages a c (t.first.0 + i)) in
        let p = page-in i h in
        rw (part-in-part a.pages (S * m) S r n p k, chunk S s.pages a c (t.first.0 + i) r n k (omega (arith, p)), ← e)
        (grow-bytes S s.pages a c b d n j f)

    pub next_found : (i : ℕ) (r : Result ℕ Refusal) → i < t.count → numbered r ≡ found_out (page_number_of s.pages a c (t.first.0 + i)) → IsOk r
    next_found i r h e = found_is (page_number_of s.pages a c (t.first.0 + i)) r e (none-lost s.pages a c t.first.0 t.count i need.found h)

    pub first_turn : put b 0 (part (part a.pages (S * number) S) t.from (min (length b) (S - t.from))) ≡ filled 1
    unfolding bytes_from
    first_turn =
        let n = min (length b) (S - t.from) in
        let some : n ≡ done 1 = rw mul-one (omega (arith, need.begins)) in
        let place : j + 0 ≡ (t.first.0 + 0) * S + t.from = let page : t.first.0 + 0 ≡ t.first.0 = omega arith in rw page (omega arith) in
        rw (need.first, ← some) (rw (add-zero, zero-add) at (turn 0 t.from n 0 need.some (omega (arith, need.begins)) place (omega arith)))

    pub next_turn : (i x : ℕ) → 1 ≤ i → i < t.count → found_out (page_number_of s.pages a c (t.first.0 + i)) ≡ Ok x
        → put (filled i) (S * i - t.from) (part (part a.pages (S * x) S) 0 (min S (length b - (S * i - t.from)))) ≡ filled (i + 1)
    next_turn i x o h e =
        let n = min S (length b - (S * i - t.from)) in
        let behind = need.ends i h in
        let whole : S ≤ S * i = omega (arith, rw mul-one at (mul-le-mul_left S o)) in
        let more : S * (i + 1) ≡ S * i + S = mul-add S i 1 ∙ ap (λ (k : ℕ). S * i + k) (mul-one S) in
        let d = S * i - t.from in
        let here : done i ≡ d = omega (arith, behind) in
        let there : d + n ≡ done (i + 1) = omega (arith, behind, whole, more, need.begins) in
        let place : j + d ≡ (t.first.0 + i) * S + 0 = rw add-mul (omega (arith, mul_comm S i, whole, need.begins)) in
        rw (here, ← there, found_number (page_number_of s.pages a c (t.first.0 + i)) x e) (turn i 0 n d h (omega arith) place (omega (arith, behind)))
