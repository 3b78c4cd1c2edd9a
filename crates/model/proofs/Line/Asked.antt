-- What the model answers of a published version of a line, and that two lines whose histories are the same up to it answer the same: a line before and after
-- other calls, a branch and its source.
-- Assumes nothing.
use mathlib.Core.Path.{◌≡◌, sym}
use mathlib.Core.Bool.{false}
use mathlib.Core.Logic.{inr}
use mathlib.Core.List.{List, [], ◌++◌}
use Prim.Native.Nat.{ℕ, ◌+◌, ◌*◌, ◌≤◌, ◌<◌}
use native.Mathlib.Omega.{arith}
use borrow.Author.Tests.{lt-leb, le-ltb}
use lib.Dec.{leb, ltb}
use lib.ListN.{length, get_or, take, drop}
use Rattle.table.specs.Table.{holds, first_refusal, unless}
use Rattle.table.specs.Table.{size_rows, read_rows, page_rows, line_rows}
use Rattle.table.proofs.Table.{none, hit, skip, first}
use Rattle.model.specs.Calls.{on, ask, Query, read, size, recent, stamp, view, READ, SIZE, RECENT, STAMP, VIEW, filled, size_is, recent_is, stamp_is, part_is, says}
use Rattle.model.specs.History.{version_at}
use Rattle.model.specs.InTurn.{blob_at, bytes_at}
use Rattle.model.specs.Stamp.{stamp_at}
use Rattle.model.specs.Model.{Limits, Model, line_at, history}
use Rattle.model.specs.OnModel.{line_number, read_number, size_number, page_number, model_outcome, on_line, on_model}
use Rattle.model.proofs.Model.Passed.{PagePassed, page-passed, stamp-answered}
use Rattle.model.proofs.History.Stay.{SameUpTo, blob-stays, stamp-stays}

-- ---- the answers of a line

module _ (L : Limits) (m : Model) (l : ℕ) (there : l < length m.lines) where
  pub recent-accepted : (on_model L m (on l RECENT)).1 ≡ says (recent_is (line_at m l).published)
  unfolding on_model on_line model_outcome line_rows
  recent-accepted = let z : line_number L m l ≡ 0 = sym (first (skip there none)) in rw z

  module _ (v : ℕ) (p : v ≤ (line_at m l).published) where
    pub read-accepted : (offset len : ℕ) (buffer : List ℕ) → offset + len ≤ L.size * (version_at (history m l) v).size → len ≤ length buffer
        → (on_model L m (on l (READ v offset len buffer))).1
        ≡ record { answer = filled; buffer = take len (drop offset (bytes_at (history m l) v)) ++ drop len buffer }
    unfolding on_model on_line model_outcome read_rows unless
    read-accepted offset len buffer q r =
        let z : read_number L m l v offset len buffer ≡ 0 = sym (first (skip there (skip p (skip (inr q) (skip r none))))) in
        rw z

    pub size-accepted : (on_model L m (on l (SIZE v))).1 ≡ says (size_is (L.size * (version_at (history m l) v).size))
    unfolding on_model on_line model_outcome size_rows
    size-accepted = let z : size_number L m l v ≡ 0 = sym (first (skip there (skip p none))) in rw z

    module _ (i : ℕ) (q : i < (version_at (history m l) v).size) where
      page-there : page_number L m l v i ≡ 0
      unfolding page_rows
      page-there = sym (first (skip there (skip p (skip (inr q) none))))

      pub view-accepted : (on_model L m (on l (VIEW v i))).1 ≡ says (part_is (get_or (blob_at (history m l) v) i []))
      unfolding on_model on_line model_outcome unless
      view-accepted = rw page-there

      pub stamp-accepted : (on_model L m (on l (STAMP v i))).1 ≡ says (stamp_is (stamp_at (history m l) v i))
      unfolding on_model on_line model_outcome
      stamp-accepted = rw page-there

    -- A page that the version does not have: VIEW hands out the empty part.
    pub view-refused : (i : ℕ) → (version_at (history m l) v).size ≤ i → (on_model L m (on l (VIEW v i))).1 ≡ says (part_is [])
    unfolding on_model on_line model_outcome unless page_rows
    view-refused i q = let z : page_number L m l v i ≡ 17 = sym (first (skip there (skip p (hit (omega arith, q))))) in rw z

-- What an answered STAMP says.
pub stamp-passed : (L : Limits) (m : Model) (l v p w : ℕ) → (on_model L m (on l (STAMP v p))).1 ≡ says (stamp_is w) → PagePassed m l v p × (stamp_at (history m l) v p ≡ w)
unfolding on_model on_line model_outcome
stamp-passed L m l v p w e =
    let r = stamp-answered (page_number L m l v p) (stamp_at (history m l) v p) w e in
    (page-passed L m l v p r.0, r.1)

-- ---- version v of line l of one model, and of line k of another or of the same

-- A query reads version v, and nothing else of a line.
abbrev pub Reads : ℕ → Query → Type 0
Reads v (read u offset len buffer) = u ≡ v
Reads v (size u) = u ≡ v
Reads v recent = ⊥
Reads v (stamp u p) = u ≡ v
Reads v (view u p) = u ≡ v

module _ (L : Limits) (m w : Model) (l k v : ℕ) (there : l < length m.lines) (here : k < length w.lines)
    (p : v ≤ (line_at m l).published) (q : v ≤ (line_at w k).published) (same : SameUpTo (history w k) (history m l) v) where
  line-m : leb (length m.lines) l ≡ false
  line-m = lt-leb (length m.lines) l there

  line-w : leb (length w.lines) k ≡ false
  line-w = lt-leb (length w.lines) k here

  published-m : ltb (line_at m l).published v ≡ false
  published-m = le-ltb (line_at m l).published v p

  published-w : ltb (line_at w k).published v ≡ false
  published-w = le-ltb (line_at w k).published v q

  version-alike : version_at (history w k) v ≡ version_at (history m l) v
  version-alike = same.versions v (omega arith)

  blob-alike : blob_at (history w k) v ≡ blob_at (history m l) v
  blob-alike = blob-stays (history w k) (history m l) v same v (omega arith)

  pub query-alike : (q : Query) → Reads v q → (on_model L w (on k (ask q))).1 ≡ (on_model L m (on l (ask q))).1
  unfolding on_model on_line model_outcome read_rows size_rows page_rows first_refusal holds
  query-alike (read u offset len buffer) e = rw (e, line-w, line-m, published-w, published-m, blob-alike, version-alike)
  query-alike (size u) e = rw (e, line-w, line-m, published-w, published-m, version-alike)
  query-alike recent e = absurd e
  query-alike (stamp u i) e =
      rw (e, line-w, line-m, published-w, published-m, stamp-stays (history w k) (history m l) v same v (omega arith) i, version-alike)
  query-alike (view u i) e = rw (e, line-w, line-m, published-w, published-m, blob-alike, version-alike)
