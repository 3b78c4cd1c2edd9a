-- The lines of a model's image: their states, the number of a version, and the record that it leads to.
-- Assumes nothing.
use mathlib.Core.Path.{◌≡◌, refl, sym, ap, ap₂, ◌∙◌}
use mathlib.Core.Logic.{inl, inr, ◌≢◌}
use mathlib.Core.List.{[]}
use Prim.Native.Nat.{ℕ, zero, suc, pred, ◌≤◌, ◌<◌}
use native.Mathlib.Decide.{ℕ_discrete}
use native.Mathlib.Omega.{arith}
use borrow.Author.Tests.{lt-ltb, le-ltb}
use lib.Dec.{ltb}
use lib.ListN.{length, get_or-eq_default}
use Rattle.tree.specs.Tree.{nth}
use Rattle.tree.proofs.Meets.{lt-or-le}
use Rattle.lines.specs.Lines.{no_branch, packed, unpacked, owner_of, Rooted, number_of, line_of, version_of, entry_at}
use Rattle.lines.specs.declared.Branch.{Branch}
use Rattle.lines.proofs.Numbers.{number_is as code_is}
use Rattle.lines.proofs.Owner.{owner-own, owner-shared, owner-induction}
use Rattle.lines.proofs.Packed.{entry-of}
use Rattle.lines.proofs.States.{Fits, unpacked-packed, source_of, with-source-of}
use Rattle.register.specs.Register.{no_record, part_of, version_record, version_part}
use Rattle.register.specs.declared.Record.{Record}
use Rattle.register.proofs.Records.{version-own, version-entry}
use Rattle.table.proofs.Table.{number-cases}
use Rattle.versions.specs.Store.{lines_in, line_in, with_line, number_on, part_on}
use Rattle.versions.proofs.Own.{line-there, line-past}
use Rattle.model.specs.History.{blob_size}
use Rattle.model.specs.Model.{Limits, Model, no_line, line_at, update_at, history, numbered, number_in}
use Rattle.model.specs.OnModel.{either}
use Rattle.model.proofs.Model.Sound.{Sound}
use Rattle.model.proofs.Lists.Tab.{get_or-tab, tab-set}
use Rattle.model.proofs.Lists.Nth.{nth_past}
use Rattle.model.proofs.Model.Facts.{versions-few, versions-most, shown-small}
use Rattle.model.proofs.Model.Shown.{shown_at, blob-shown}
use Rattle.model.proofs.Line.Owner.{owner_of as owner_in, owner-there, owner-starts, owner_shows, owner-number, source-there, source-has, owner-own as own-here, owner-shared as own-there}
use Rattle.model.proofs.Line.Numbers.{numbered_is, number_is, number-line, number-version}
use Rattle.demands.proofs.Image.{own_at, record_image, register_image, branch_image, sources_image, lines_image, store_image, areas_image}
use Rattle.demands.proofs.Records.{record-of, own-upto, name-image, update-room}

-- ---- the states

-- A line that has not begun has the state of one.
line-none : (m : Model) (l : ℕ) → length m.lines ≤ l → branch_image m l ≡ no_branch
line-none m l h = rw (get_or-eq_default m.lines no_line h)

module _ (L : Limits) (m : Model) (S : Sound L m) where
  pub lines-in : lines_in (store_image L m) ≡ length m.lines
  lines-in = omega (arith, S.few)

  -- A line's blob is within the limit; one that has not begun has none.
  pub blob-small : (l : ℕ) → blob_size (history m l) ≤ 4096
  blob-small l = elim (lt-or-le l (length m.lines)) [
    | inl h ↦ omega (arith, blob-shown m l, shown-small L m S l h (length (line_at m l).shown) (omega arith))
    | inr h ↦ rw (get_or-eq_default m.lines no_line h) (omega arith)
  ]

  -- A state's numbers have their bits, so that its word has them all.
  state-fits : (l : ℕ) → Fits (branch_image m l)
  state-fits l = elim (lt-or-le l (length m.lines)) [
    | inl h ↦
        let x = S.lines l h in
        let most = versions-most L m S l h in
        record {
          start = omega (arith, x.started, x.published);
          assigned = omega arith;
          published = omega (arith, x.published);
          blob = omega (arith, blob-small l);
        }
    | inr h ↦ rw (line-none m l h) (record { start = omega arith; assigned = omega arith; published = omega arith; blob = omega arith })
  ]

  -- What the words say of a line is its state.
  pub line-in : (l : ℕ) → line_in (store_image L m) l ≡ branch_image m l
  unfolding sources_image lines_image
  line-in l = elim (lt-or-le l 16) [
    | inl h ↦
        line-there (store_image L m) l h
        ∙ ap₂ unpacked
        (source_of 16 (λ j. (branch_image m j).source.0) (λ j k. omega arith) l h)
        (get_or-tab 16 (λ j. packed (branch_image m j)) l 0 h)
        ∙ unpacked-packed (branch_image m l) (state-fits l)
    | inr h ↦ line-past (store_image L m) l h ∙ sym (line-none m l (omega (arith, S.few)))
  ]

  -- A state written for a line leaves the words of a model that has it there, and the others' as they were.
  module _ (m' : Model) (l : ℕ) (b : Branch) (line : l < 16) (new : branch_image m' l ≡ b) (old : (j : ℕ) → j ≢ l → branch_image m j ≡ branch_image m' j) where
    pub sources-written : (with_line (store_image L m) l b).sources ≡ sources_image m'
    unfolding sources_image
    sources-written =
        let source : Branch → ℕ = λ x. x.source.0 in
        rw (lt-ltb l 16 line)
        (with-source-of 16 (λ j. (branch_image m j).source.0) (λ j. (branch_image m' j).source.0) (λ j k. omega arith) l b.source.0 line
        (omega (arith, ap source new)) (ap source new) (λ j h n. ap source (old j n)))

    pub words-written : (with_line (store_image L m) l b).lines ≡ lines_image m'
    unfolding lines_image
    words-written = tab-set 16 (λ j. packed (branch_image m j)) (λ j. packed (branch_image m' j)) l (packed b) line (λ j h n. ap packed (old j n)) (ap packed new)

  -- Every line but the first comes from a lower one.
  source-low : (l : ℕ) → 0 < l → (line_at m l).source < l
  source-low l o = elim (lt-or-le l (length m.lines)) [
    | inl h ↦ (S.lines l h).source o
    | inr h ↦ rw (get_or-eq_default m.lines no_line h) o
  ]

  pub rooted : Rooted (line_in (store_image L m))
  rooted = record {
    first = rw (line-in 0) ((S.lines 0 S.begun).first refl);
    earlier = λ l o h. rw (line-in l) (omega (arith, source-low l o));
  }

  -- ---- version v of line l, one of its own or a shared one

  -- A shared version is not of line 0.
  shared-above : (l v : ℕ) → l < length m.lines → 0 < v → v ≤ (line_at m l).start → 0 < l
  shared-above l v there o s = elim (number-cases l) [ inl z ↦ absurd (omega (arith, (S.lines l there).first z)) | inr p ↦ p ]

  -- The line on which it got its number is found.
  owner-found : (v : ℕ) → 0 < v → (l : ℕ) → l < 16 → l < length m.lines → v ≤ length (line_at m l).shown → owner_of (line_in (store_image L m)) l v ≡ owner_in m l v
  owner-found v o =
      owner-induction (line_in (store_image L m)) rooted v o (λ l. l < length m.lines → v ≤ length (line_at m l).shown → owner_of (line_in (store_image L m)) l v ≡ owner_in m l v)
      (λ l s there h. let s' = rw (line-in l) at s in owner-own (line_in (store_image L m)) rooted v o l s ∙ sym (own-here L m S l v there o h s'))
      (λ l f near s ih there h.
      let s' = rw (line-in l) at s in
      let p = shared-above l v there o s' in
      let e : (line_in (store_image L m) l).source.0 ≡ (line_at m l).source = ap (λ (b : Branch). b.source.0) (line-in l) ∙ omega (arith, source-low l p) in
      owner-shared (line_in (store_image L m)) rooted v o l f s
      ∙ ap (λ (k : ℕ). owner_of (line_in (store_image L m)) k v) e
      ∙ (rw e at ih) (source-there L m S l p there) (source-has L m S l v p there s')
      ∙ sym (own-there L m S l v there o h p s'))

  module _ (l : ℕ) (there : l < length m.lines) where
    -- Its number is the one that the model has.
    pub number-on : (v : ℕ) → v ≤ length (line_at m l).shown → number_on (store_image L m) l v ≡ number_in (history m l) v
    number-on zero h = refl
    number-on (suc v) h =
        let o : 0 < suc v = omega arith in
        let w = owner-there L m S l (suc v) there o h in
        ap (λ (k : ℕ). number_of k (suc v)) (owner-found (suc v) o l (omega (arith, S.few)) there h)
        ∙ code_is (owner_in m l (suc v)) (suc v) (omega (arith, S.few)) o (omega (arith, versions-most L m S l there))
        ∙ sym (number_is L m S l (suc v) there o h)

  zero-low : 0 < 65536
  zero-low = omega arith

  -- The update that is line l's own version v is one of those assigned.
  pub own-low : (l v : ℕ) → own_at m l v < 65536
  own-low l v = elim (lt-or-le l (length m.lines)) [
    | inl there ↦ elim (lt-or-le (line_at m l).start v) [
      | inl s ↦ rw (lt-ltb (line_at m l).start v s) (elim (lt-or-le (length (line_at m l).shown) v) [
        | inl p ↦ rw (nth_past 0 (line_at m l).shown v p) (omega arith)
        | inr p ↦ omega (arith, (S.lines l there).most v (omega arith) p, S.fewer, S.records, S.allowed.updates)
      ])
      | inr s ↦ rw (le-ltb (line_at m l).start v s) (omega arith)
    ]
    | inr h ↦ rw (get_or-eq_default m.lines no_line h) (no_own v)
  ]
    where
      no_own : (v : ℕ) → either (ltb 0 v) (nth 0 [] v) 0 < 65536
      no_own zero = omega arith
      no_own (suc v) = rw (lt-ltb 0 (suc v) (omega arith)) zero-low

  module _ (l v : ℕ) (there : l < length m.lines) (o : 0 < v) (h : v ≤ length (line_at m l).shown) where
    abbrev code : ℕ
    code = number_in (history m l) v

    upto : v ≤ length m.updates
    upto = omega (arith, versions-few L m S l there)

    shown-most : shown_at m l v ≤ length m.updates
    shown-most = (S.lines l there).most v o h

    -- The record of the version's own number, and the one of the update that the line shows.
    first-record : nth no_record (register_image L m) (version_of code) ≡ record_image m (pred v)
    first-record = ap (λ (k : ℕ). nth no_record (register_image L m) k) (number-version L m S l v there o h) ∙ record-of L m v o (update-room L m S v upto)

    -- Where that record has the version's number, its update is the one.
    same_update : (record_image m (pred v)).name ≡ code → v ≡ shown_at m l v
    same_update e =
        let s = S.updated v o upto in
        let n = own-upto L m S v o upto in
        let c = numbered_is (update_at m v).line (update_at m v).number (omega (arith, s.own)) in
        let most = versions-most L m S (update_at m v).line s.line in
        let d = number_is L m S l v there o h in
        let w = owner-there L m S l v there o h in
        let g = name-image L m S v o upto in
        let num : (update_at m v).number ≡ v = omega (arith, versions-most L m S l there) in
        let lin : (update_at m v).line ≡ owner_in m l v = omega (arith, versions-most L m S l there) in
        sym (ap₂ (shown_at m) (sym lin) (sym num) ∙ s.shown) ∙ owner_shows L m S l v there o h

    -- Else the entry of the line on which it got its number names it.
    entry-names : entry_at (record_image m (pred v)).entries (line_of code) ≡ shown_at m l v
    entry-names =
        let w = owner-there L m S l v there o h in
        let n : suc (pred v) ≡ v = omega arith in
        ap (entry_at (record_image m (pred v)).entries) (number-line L m S l v there o h)
        ∙ entry-of (λ j. own_at m j (suc (pred v))) (λ j z. own-low j (suc (pred v))) (owner_in m l v) (omega (arith, S.few))
        ∙ ap (own_at m (owner_in m l v)) n
        ∙ rw (lt-ltb (line_at m (owner_in m l v)).start v (owner-starts L m S l v there o h)) (owner_shows L m S l v there o h)

    pub version-found : version_record (register_image L m) code ≡ record_image m (pred (shown_at m l v))
    version-found = elim (ℕ_discrete (record_image m (pred v)).name code) [
      | yes e ↦
          version-own (register_image L m) code (ap (λ (r : Record). r.name) first-record ∙ e) ∙ first-record ∙ ap (λ (k : ℕ). record_image m (pred k)) (same_update e)
      | no n ↦
          version-entry (register_image L m) code (λ z. n (sym (ap (λ (r : Record). r.name) first-record) ∙ z))
          ∙ ap (λ (r : Record). nth no_record (register_image L m) (entry_at r.entries (line_of code))) first-record
          ∙ ap (λ (k : ℕ). nth no_record (register_image L m) k) entry-names
          ∙ record-of L m (shown_at m l v) ((S.lines l there).some v o h) (update-room L m S (shown_at m l v) shown-most)
    ]

    -- What the record of version v of line l says.
    pub part-on : part_on (store_image L m) (areas_image L m) l v ≡ part_of (record_image m (pred (shown_at m l v)))
    part-on = ap (version_part (register_image L m)) (number-on l there v h) ∙ ap part_of version-found

    -- It is that version's.
    pub name-shown : (record_image m (pred (shown_at m l v))).name ≡ code
    name-shown =
        name-image L m S (shown_at m l v) ((S.lines l there).some v o h) shown-most
        ∙ ap (numbered (owner_in m l v)) ((S.lines l there).number v o h)
        ∙ sym (owner-number L m S l v there o h)
