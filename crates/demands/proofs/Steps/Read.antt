-- READ on a model's image: the number and the bytes are the model's.
-- Assumes nothing.
use mathlib.Core.Path.{◌≡◌, refl, sym, ◌∙◌}
use mathlib.Core.Bool.{false}
use mathlib.Core.List.{List, ◌++◌}
use Prim.Native.Nat.{ℕ, zero, suc, ◌+◌, ◌*◌, ◌/◌, ◌%◌, ◌≤◌, ◌<◌}
use native.Mathlib.Nat.{div-lt_iff_lt-mul, mul_comm, mod-lt}
use native.Mathlib.Omega.{arith}
use lib.ListN.{length, take, drop}
use Rattle.table.specs.Table.{◌or◌, test, always, read_rows}
use Rattle.table.proofs.Table.{unless-same}
use Rattle.versions.specs.Store.{Areas, number_on, part_on}
use Rattle.versions.specs.Size.{is_there, not_there, bytes_in}
use Rattle.walk.specs.FindPage.{page_number_of, is_lost}
use Rattle.read.specs.Read.{some_lost, pages_touched, read_number, byte_of, bytes_from}
use Rattle.model.specs.Calls.{read}
use Rattle.model.specs.History.{version_at}
use Rattle.model.specs.InTurn.{blob_at, bytes_at}
use Rattle.model.specs.Model.{Limits, Model, line_at, history, number_in}
use Rattle.model.specs.OnModel.{model_outcome, read_number as model_number}
use Rattle.model.proofs.Model.Sound.{Sound}
use Rattle.model.proofs.History.SoundHistory.{line-history}
use Rattle.model.proofs.Model.Shown.{versions-length}
use Rattle.model.proofs.Lists.Blocks.{page_byte}
use Rattle.model.proofs.Lists.Bytes.{bytes_by}
use Rattle.model.proofs.History.Blob.{bytes-range}
use Rattle.model.proofs.Area.Found.{page-byte}
use Rattle.model.proofs.Model.Passed.{read-passed}
use Rattle.model.proofs.Area.Woven.{published-upto}
use Rattle.demands.specs.Run.{store_outcome}
use Rattle.demands.proofs.Image.{store_image, areas_image, image}
use Rattle.demands.proofs.Lines.{lines-in, line-in, number-on}
use Rattle.demands.proofs.Readings.{filled-reads}
use Rattle.demands.proofs.Steps.Numbers.{read_alike, image-number}
use Rattle.demands.proofs.Steps.Found.{page-number}
use Rattle.demands.proofs.Steps.Size.{name-there, bytes-in}

-- The bytes that a store gives for a range, where each is known.
bytes-from-by : (size pages : ℕ) (a : Areas) (c : ℕ) (g : ℕ → ℕ) (off len : ℕ) → ((j : ℕ) → off ≤ j → j < off + len → byte_of size pages a c j ≡ g j)
    → bytes_from size pages a c off len ≡ bytes_by g off len
unfolding bytes_from bytes_by
bytes-from-by size pages a c g off zero e = refl
bytes-from-by size pages a c g off (suc len) e =
    rw (e off (omega arith) (omega arith), bytes-from-by size pages a c g (suc off) len (λ j p q. e j (omega arith) (omega arith)))

-- ---- the number

none-lost : (pages : ℕ) (a : Areas) (c p n : ℕ) → ((q : ℕ) → p ≤ q → q < p + n → is_lost (page_number_of pages a c q) ≡ false) → some_lost pages a c p n ≡ false
unfolding some_lost
none-lost pages a c p zero h = refl
none-lost pages a c p (suc n) h = rw (h p (omega arith) (omega arith)) (none-lost pages a c (suc p) n (λ q x y. h q (omega arith) (omega arith)))

-- A page that a range of bytes touches lies within the size.
touched-within : (S size offset len q : ℕ) → 0 < S → offset + len ≤ S * size → offset / S ≤ q → q < offset / S + pages_touched S offset len → q < size
touched-within S size offset zero q o h l r = absurd (omega arith)
touched-within S size offset (suc len) q o h l r =
    let d : (offset + len) / S < size = (div-lt_iff_lt-mul o).1 (omega (arith, mul_comm S size)) in
    omega arith

module _ (L : Limits) (m : Model) (S : Sound L m) (l : ℕ) (there : l < length m.lines) (v offset len : ℕ) (h : v ≤ (line_at m l).published)
    (r : offset + len ≤ L.size * (version_at (history m l) v).size) where
  abbrev code : ℕ
  code = number_in (history m l) v

  pub lost-none : some_lost L.pages (areas_image L m) code (offset / L.size) (pages_touched L.size offset len) ≡ false
  lost-none =
      none-lost L.pages (areas_image L m) code (offset / L.size) (pages_touched L.size offset len) (λ q x y.
      let i = touched-within L.size (version_at (history m l) v).size offset len q S.allowed.some_page r x y in
      rw (page-number L m S l there v q h i))

  byte-of : (j : ℕ) → offset ≤ j → j < offset + len → byte_of L.size L.pages (areas_image L m) code j ≡ page_byte L.size (blob_at (history m l) v) j
  unfolding byte_of
  byte-of j x y =
      let s = S.allowed.some_page in
      let size = (version_at (history m l) v).size in
      let i : j / L.size < size = (div-lt_iff_lt-mul s).1 (omega (arith, mul_comm L.size size)) in
      rw (page-number L m S l there v (j / L.size) h i) (page-byte L m S l there v (j / L.size) (published-upto L m S l there v h) i (j % L.size) (mod-lt j s))

  -- The bytes read are those of the range.
  pub bytes-from : bytes_from L.size L.pages (areas_image L m) code offset len ≡ take len (drop offset (bytes_at (history m l) v))
  bytes-from =
      bytes-from-by L.size L.pages (areas_image L m) code (page_byte L.size (blob_at (history m l) v)) offset len byte-of
      ∙ sym (bytes-range L (history m l) (line-history L m S l there) v offset len (omega (arith, published-upto L m S l there v h, versions-length m l)) r)

module _ (L : Limits) (m : Model) (S : Sound L m) (l v offset len : ℕ) (buffer : List ℕ) where
  pub read-number : read_number (store_image L m) (areas_image L m) l v offset len buffer ≡ model_number L m l v offset len buffer
  unfolding read_number
  read-number =
      let s = store_image L m in
      let a = areas_image L m in
      let q = part_on s a l v in
      let c = number_on s l v in
      rw (lines-in L m S, line-in L m S l)
      (image-number L m S
      (read_rows (is_there q c) l (length m.lines) v (line_at m l).published (bytes_in s a l v) offset len (length buffer))
      (read_rows always l (length m.lines) v (line_at m l).published (L.size * (version_at (history m l) v).size) offset len (length buffer))
      (not_there q c or test (some_lost L.pages a c (offset / L.size) (pages_touched L.size offset len)))
      (read_alike q.name c l (length m.lines) v (line_at m l).published (bytes_in s a l v) (L.size * (version_at (history m l) v).size) offset len (length buffer)
      (λ there h.
      let w = published-upto L m S l there v h in
      (name-there L m S l there v w, bytes-in L m S l there v w)))
      (λ z.
      let g = read-passed L m l v offset len buffer z in
      let w = published-upto L m S l g.line v g.published in
      (name-there L m S l g.line v w, rw (number-on L m S l g.line v w) (lost-none L m S l g.line v offset len g.published g.inside))))

  pub read-outcome : store_outcome (image L m) l (read v offset len buffer) ≡ model_outcome L m l (read v offset len buffer)
  unfolding store_outcome model_outcome
  read-outcome =
      rw (
        read-number,
        filled-reads (model_number L m l v offset len buffer),
        unless-same (model_number L m l v offset len buffer) buffer
            (bytes_from L.size L.pages (areas_image L m) (number_on (store_image L m) l v) offset len ++ drop len buffer)
            (take len (drop offset (bytes_at (history m l) v)) ++ drop len buffer)
            (λ z.
            let g = read-passed L m l v offset len buffer z in
            rw (number-on L m S l g.line v (published-upto L m S l g.line v g.published), bytes-from L m S l g.line v offset len g.published g.inside)),
      )
