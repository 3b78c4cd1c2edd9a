-- A range of bytes: READ's number by the rows and the walks, what the rows, passed, say of the range, and the pages that it touches. Assumes nothing.
use mathlib.Core.Path.{◌≡◌, refl, sym, ap, ◌∙◌}
use mathlib.Core.Bool.{Bool, true, false, cond, not, ◌||◌}
use mathlib.Core.List.{List, [], ◌∷◌, ◌++◌}
use Prim.Native.Nat.{ℕ, zero, suc, ◌+◌, ◌-◌, ◌*◌, ◌/◌, ◌%◌, ◌^◌, ◌<◌, ◌≤◌}
use native.Mathlib.Nat.{zero-mul, div-mul-le_self, le-div_iff_mul-le, div-le_self, div-add-mod', mod-lt, mul-le-mul_left, mul-add, mul_comm, mul-suc}
use native.Mathlib.Omega.{arith}
use lib.Dec.{eqb}
use lib.ListN.{length, drop}
use Rattle.std.proofs.Common.{Some, None, Result, Ok, Err}
use Rattle.register.specs.Register.{version_part}
use Rattle.table.specs.Refused.{answered}
use Rattle.table.specs.Table.{Cond, ◌and◌, ◌or◌, test, ◌<?◌, always, holds, Row, ◌gives◌, first_refusal, or_else, unless, every_call, size_rows, read_rows}
use Rattle.versions.specs.Store.{Areas, areas_differ, lengths_of, lines_in, line_in, number_on, part_on}
use Rattle.versions.specs.Size.{is_there, not_there, refusal_by, snapshot_refusal, opened_by, pages_by, bytes_by, bytes_in}
use Rattle.walk.specs.FindPage.{page_number_of, or_zero}
use Rattle.read.specs.Read.{pages_touched, some_lost, bytes_from, read_number, read_out, read_buffer}
use Rattle.read.specs.Range.{bytes_there, range_refusal, range_out, lost_refusal, first_out, Ranged, touched, Readable}
use Rattle.register.specs.declared.Part.{Part}
use Rattle.versions.specs.declared.Store.{Store}
use Rattle.table.proofs.Table.{Numbered, passed, call-parts, or_else-0, or_else-suc, unless-0, unless-suc}

-- ---- the number

-- One condition more in the last row: it decides where the rows give no number without it.
or-last : (rows : List Row) → Numbered rows → (c : Cond) (b : Bool)
    → first_refusal (rows ++ ((c or test b gives 19) ∷ [])) ≡ or_else (first_refusal (rows ++ ((c gives 19) ∷ []))) (lost_refusal b)
unfolding first_refusal holds or_else
or-last [] t c b = go (holds c) b
  where
    go : (x y : Bool) → cond (x || y) 19 0 ≡ or_else (cond x 19 0) (lost_refusal y)
    go true y = refl
    go false true = refl
    go false false = refl
or-last ((d gives zero) ∷ rows) t c b = absurd t
or-last ((d gives suc k) ∷ rows) t c b = go (holds d) (first_refusal (rows ++ ((c or test b gives 19) ∷ []))) (first_refusal (rows ++ ((c gives 19) ∷ []))) (or-last rows t c b)
  where
    go : (x : Bool) (m n : ℕ) → m ≡ or_else n (lost_refusal b) → cond x (suc k) m ≡ or_else (cond x (suc k) n) (lost_refusal b)
    go true m n e = refl
    go false m n e = e

-- The rows after 16 but for the walks, by the bytes of the version where its record is there.
by-bytes : (q : Part) (c total offset len room : ℕ)
    → first_refusal ((is_there q c and total <? offset + len gives 17) ∷ (room <? len gives 18) ∷ (not_there q c gives 19) ∷ [])
    ≡ range_refusal (cond (eqb q.name c) (Some total) None) offset len room
unfolding first_refusal holds
by-bytes q c total offset len room = go (eqb q.name c)
  where
    go : (b : Bool)
        → first_refusal ((test b and total <? offset + len gives 17) ∷ (room <? len gives 18) ∷ (test (not b) gives 19) ∷ [])
        ≡ range_refusal (cond b (Some total) None) offset len room
    go true = refl
    go false = refl

-- An answer by the table's number.
answered-err : {A : Type 0} (k i : ℕ) (x : A) → answered k x ≡ Err i → (k ≡ i) × (0 < k)
answered-err zero i x e = cc
answered-err (suc k) i x e = (cc, omega arith)

answered-ok : {A : Type 0} (k : ℕ) (x y : A) → answered k x ≡ Ok y → (k ≡ 0) × (x ≡ y)
answered-ok zero x y e = (refl, cc)
answered-ok (suc k) x y e = cc

refuses : {A : Type 0} (k : ℕ) (x : A) → 0 < k → answered k x ≡ Err k
refuses zero x h = absurd (omega arith)
refuses (suc k) x h = refl

found-not : (b : Bool) (x y : ℕ) → answered (lost_refusal b) x ≡ Ok y → (b ≡ false) × (x ≡ y)
found-not true x y e = cc
found-not false x y e = (refl, cc)

module _ (s : Store) (a : Areas) (l v offset len : ℕ) (buffer : List ℕ) where
  -- The number of the rows after 16 but for the walks, and of the walks, where the version is numbered c.
  abbrev pub range-number : ℕ → ℕ
  range-number c = range_refusal (bytes_there s.size (version_part a.register c) c v) offset len (length buffer)

  abbrev checked : ℕ → Result Unit ℕ
  checked c = range_out (bytes_there s.size (version_part a.register c) c v) offset len (length buffer)

  abbrev lost-number : ℕ → ℕ
  lost-number c = lost_refusal (some_lost s.pages a c (offset / s.size) (pages_touched s.size offset len))

  by-rows : (q : Part) (c : ℕ)
      → first_refusal (every_call (areas_differ s a) (read_rows (is_there q c) l (lines_in s) v (line_in s l).published.0 (bytes_by s.size (pages_by v q)) offset len (length buffer)) (not_there q c))
      ≡ or_else (snapshot_refusal s (lengths_of a) l v) (range_refusal (bytes_there s.size q c v) offset len (length buffer))
  unfolding read_rows refusal_by size_rows bytes_there
  by-rows q c =
      call-parts
      (areas_differ s a)
      (size_rows l (lines_in s) v (line_in s l).published.0)
      ((is_there q c and bytes_by s.size (pages_by v q) <? offset + len gives 17) ∷ (length buffer <? len gives 18) ∷ [])
      (not_there q c)
      tt
      ∙ ap (or_else (snapshot_refusal s (lengths_of a) l v)) (by-bytes q c (bytes_by s.size (pages_by v q)) offset len (length buffer))

  read-number : read_number s a l v offset len buffer ≡ or_else (or_else (snapshot_refusal s (lengths_of a) l v) (range-number (number_on s l v))) (lost-number (number_on s l v))
  unfolding read_number read_rows
  read-number =
      let c = number_on s l v in
      let q = part_on s a l v in
      let lost = some_lost s.pages a c (offset / s.size) (pages_touched s.size offset len) in
      let rows = read_rows (is_there q c) l (lines_in s) v (line_in s l).published.0 (bytes_in s a l v) offset len (length buffer) in
      or-last ((areas_differ s a gives 3) ∷ rows) tt (not_there q c) lost
      ∙ ap (λ (k : ℕ). or_else k (lost_refusal lost)) (by-rows q c)

  -- ---- the number where the version is opened as c, and where it is not

  stands : (k r : ℕ) → 0 < k → or_else k r ≡ k
  stands k r h = or_else-suc k r (λ z. omega (arith, z))

  number-closed : (k : ℕ) → opened_by s (lengths_of a) l v ≡ Err k → (read_number s a l v offset len buffer ≡ k) × (0 < k)
  number-closed k e =
      let z = answered-err (snapshot_refusal s (lengths_of a) l v) k (number_on s l v) e in
      (rw (read-number, stands _ (range-number (number_on s l v)) z.1, stands _ (lost-number (number_on s l v)) z.1) z.0, omega (arith, z.0, z.1))

  number-opened : (c : ℕ) → opened_by s (lengths_of a) l v ≡ Ok c → read_number s a l v offset len buffer ≡ or_else (range-number c) (lost-number c)
  number-opened c o =
      let z = answered-ok (snapshot_refusal s (lengths_of a) l v) (number_on s l v) c o in
      rw (read-number, or_else-0 (snapshot_refusal s (lengths_of a) l v) (range-number (number_on s l v)) z.0, z.1) refl

  -- ---- what READ answers, and the buffer that it leaves

  pub out_closed : (k : ℕ) → opened_by s (lengths_of a) l v ≡ Err k → read_out s a l v offset len buffer ≡ Err k
  out_closed k e = let z = number-closed k e in rw z.0 (refuses k _ z.1)

  pub buffer_closed : (k : ℕ) → opened_by s (lengths_of a) l v ≡ Err k → read_buffer s a l v offset len buffer ≡ buffer
  buffer_closed k e = let z = number-closed k e in rw z.0 (unless-suc k _ _ z.1)

  module _ (c : ℕ) (o : opened_by s (lengths_of a) l v ≡ Ok c) where
    number-refused : (k : ℕ) → checked c ≡ Err k → (read_number s a l v offset len buffer ≡ k) × (0 < k)
    unfolding range_out
    number-refused k e =
        let f = answered-err (range-number c) k _ e in
        (number-opened c o ∙ stands (range-number c) (lost-number c) (omega (arith, f.0, f.1)) ∙ f.0, omega (arith, f.0, f.1))

    pub out_refused : (k : ℕ) → checked c ≡ Err k → read_out s a l v offset len buffer ≡ Err k
    out_refused k e = let z = number-refused k e in rw z.0 (refuses k _ z.1)

    pub buffer_refused : (k : ℕ) → checked c ≡ Err k → read_buffer s a l v offset len buffer ≡ buffer
    buffer_refused k e = let z = number-refused k e in rw z.0 (unless-suc k _ _ z.1)

    module _ (u : Unit) (e : checked c ≡ Ok u) where
      passes : range-number c ≡ 0
      unfolding range_out
      passes = (answered-ok (range-number c) _ u e).0

      number-walks : read_number s a l v offset len buffer ≡ lost-number c
      number-walks = number-opened c o ∙ or_else-0 (range-number c) (lost-number c) passes

      -- An empty range touches no page.
      number-empty : len ≡ 0 → read_number s a l v offset len buffer ≡ 0
      unfolding some_lost
      number-empty q = number-walks ∙ rw q refl

      pub out_empty : len ≡ 0 → read_out s a l v offset len buffer ≡ Ok tt
      out_empty q = rw (number-empty q) refl

      pub buffer_empty : len ≡ 0 → read_buffer s a l v offset len buffer ≡ buffer
      unfolding bytes_from unless
      buffer_empty q = rw (number-empty q, q) refl

      abbrev walked : Result ℕ ℕ
      walked = first_out s.pages a c (offset / s.size) (pages_touched s.size offset len)

      number-lost : (k : ℕ) → walked ≡ Err k → (read_number s a l v offset len buffer ≡ k) × (0 < k)
      unfolding first_out
      number-lost k q = let f = answered-err (lost-number c) k _ q in (number-walks ∙ f.0, omega (arith, f.0, f.1))

      pub out_lost : (k : ℕ) → walked ≡ Err k → read_out s a l v offset len buffer ≡ Err k
      out_lost k q = let f = number-lost k q in rw f.0 (refuses k _ f.1)

      pub buffer_lost : (k : ℕ) → walked ≡ Err k → read_buffer s a l v offset len buffer ≡ buffer
      buffer_lost k q = let f = number-lost k q in rw f.0 (unless-suc k _ _ f.1)

      module _ (number : ℕ) (q : walked ≡ Ok number) where
        pub walks-found : (some_lost s.pages a c (offset / s.size) (pages_touched s.size offset len) ≡ false) × (or_zero (page_number_of s.pages a c (offset / s.size)) ≡ number)
        unfolding first_out
        walks-found = found-not (some_lost s.pages a c (offset / s.size) (pages_touched s.size offset len)) _ number q

        number-read : read_number s a l v offset len buffer ≡ 0
        number-read = number-walks ∙ ap lost_refusal walks-found.0

        pub out_read : read_out s a l v offset len buffer ≡ Ok tt
        out_read = rw number-read refl

        pub buffer_read : read_buffer s a l v offset len buffer ≡ bytes_from s.size s.pages a c offset len ++ drop len buffer
        buffer_read =
            rw ((answered-ok (snapshot_refusal s (lengths_of a) l v) (number_on s l v) c o).1)
            (unless-0 (read_number s a l v offset len buffer) _ _ number-read)

-- ---- what the rows, passed, say of the range

within : (b : Bool) (total offset len room : ℕ) → range_refusal (cond b (Some total) None) offset len room ≡ 0 → (offset + len ≤ total) × (len ≤ room)
within true total offset len room e = let all = passed ((total <? offset + len gives 17) ∷ (room <? len gives 18) ∷ []) tt e in (all.0, all.1.0)
within false total offset len room e = let all = passed ((room <? len gives 18) ∷ (always gives 19) ∷ []) tt e in absurd (omega (arith, all.1.0))

some-size : (size n offset len : ℕ) → offset + len ≤ size * n → 0 < len → 0 < size
some-size zero n offset len p h = absurd (omega (arith, rw zero-mul at p))
some-size (suc size) n offset len p h = omega arith

module _ (s : Store) (a : Areas) (v offset len room c : ℕ) (u : Unit)
    (e : range_out (bytes_there s.size (version_part a.register c) c v) offset len room ≡ Ok u) where
  pub has_room : len ≤ room
  unfolding bytes_there range_out
  has_room = (within (eqb (version_part a.register c).name c) (bytes_by s.size (pages_by v (version_part a.register c))) offset len room (answered-ok _ _ u e).0).1

  pub ranged : 0 < len → Ranged s.size offset len
  unfolding bytes_by bytes_there range_out
  ranged h =
      let q = version_part a.register c in
      let r = (within (eqb q.name c) (bytes_by s.size (pages_by v q)) offset len room (answered-ok _ _ u e).0).0 in
      record {
        fits = omega (arith, r);
        some = some-size s.size (pages_by v q) offset len (omega (arith, r)) h;
        any = h;
      }

-- The rows up to 16, passed, say that the areas are as long as the store has them.
pub opened_area : (s : Store) (a : Areas) (l v c : ℕ) → opened_by s (lengths_of a) l v ≡ Ok c → length a.pages ≡ s.size * s.pages
unfolding refusal_by size_rows
opened_area s a l v c o =
    let z = answered-ok (snapshot_refusal s (lengths_of a) l v) (number_on s l v) c o in
    let all = passed ((areas_differ s a gives 3) ∷ size_rows l (lines_in s) v (line_in s l).published.0) tt z.0 in
    omega (arith, all.0)

-- ---- the pages

div_mono : (a b k : ℕ) → 0 < k → a ≤ b → a / k ≤ b / k
div_mono a b k p h = (le-div_iff_mul-le {k = k} {x = a / k} {y = b} p).1 (omega (arith, div-mul-le_self a k))

module _ (size offset len : ℕ) (r : Ranged size offset len) where
  abbrev last : ℕ
  last = (offset + (len - 1)) / size

  first-last : offset / size ≤ last
  first-last = div_mono offset (offset + (len - 1)) size r.some (omega arith)

  pub touched_is : pages_touched size offset len ≡ last - offset / size + 1
  touched_is = go len r.any first-last
    where
      go : (n : ℕ) → 0 < n → offset / size ≤ (offset + (n - 1)) / size → pages_touched size offset n ≡ (offset + (n - 1)) / size - offset / size + 1
      go zero p h = absurd (omega arith)
      go (suc n) p h = let e : suc n - 1 ≡ n = omega arith in rw e (omega (arith, rw e at h))

  -- The pages that are walked to have numbers that fit.
  pub walked_fit : (0 < pages_touched size offset len) × (offset / size + pages_touched size offset len < 2 ^ 64)
  walked_fit = rw touched_is (omega arith, omega (arith, first-last, div-le_self (offset + (len - 1)) size, r.fits, r.any))

  -- The range's bytes begin in the first page and end in the last.
  place : offset ≡ size * (offset / size) + offset % size
  place = rw (mul_comm size (offset / size)) (sym (div-add-mod' offset size))

  ends : (i : ℕ) → i < pages_touched size offset len → size * i < offset % size + len
  ends i h =
      let upto : offset / size + i ≤ last = omega (arith, touched_is, first-last, h) in
      let below : size * (offset / size) + size * i ≤ size * last = rw (← mul-add size (offset / size) i) (mul-le-mul_left size upto) in
      omega (arith, below, place, rw (mul_comm last size) at (div-mul-le_self (offset + (len - 1)) size), r.any)

  whole : offset % size + len ≤ size * pages_touched size offset len
  whole =
      let upto : offset / size + pages_touched size offset len ≡ suc last = omega (arith, touched_is, first-last) in
      let past : size * (offset / size) + size * pages_touched size offset len ≡ size * last + size =
      sym (mul-add size (offset / size) (pages_touched size offset len)) ∙ ap (λ (k : ℕ). size * k) upto ∙ mul-suc size last in
      let end : size * last + (offset + (len - 1)) % size ≡ offset + (len - 1) = rw (mul_comm size last) (div-add-mod' (offset + (len - 1)) size) in
      omega (arith, past, end, place, mod-lt (offset + (len - 1)) r.some, r.any)

  pub range_readable : (s : Store) (a : Areas) (c number : ℕ) → s.size ≡ size → length a.pages ≡ s.size * s.pages
      → some_lost s.pages a c (offset / size) (pages_touched size offset len) ≡ false
      → or_zero (page_number_of s.pages a c (offset / size)) ≡ number
      → Readable s a c (touched size offset len) number len
  range_readable s a c number e area found first = record {
    some = walked_fit.0;
    begins = rw e (mod-lt offset r.some);
    ends = λ i h. rw e (ends i h);
    within = rw e whole;
    fits = rw e (omega (arith, div-add-mod' offset size, r.fits));
    area = area;
    found = found;
    first = sym first;
  }

pub ruleset closed = (out_closed, buffer_closed)
