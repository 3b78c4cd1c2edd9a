-- WEAVE's search for a child's number on a model's image: the newest of a line's versions after its last published one, else what that one's tree has, is the model's newest.
-- Assumes nothing.
use Rattle.std.proofs.Common.{Option, Some}
use mathlib.Core.Path.{◌≡◌, refl, sym, ap, ◌∙◌}
use mathlib.Core.Logic.{inl, inr}
use mathlib.Core.Bool.{true, false}
use mathlib.Core.List.{List, []}
use Prim.Native.Nat.{ℕ, zero, suc, ◌-◌, ◌^◌, ◌≤◌, ◌<◌, min}
use native.Mathlib.Omega.{arith}
use borrow.Author.Tests.{lt-ltb}
use lib.Dec.{ltb}
use lib.ListN.{length}
use lib.Pow.{pow_mono}
use Rattle.tree.specs.Tree.{Update, meets, update, newest, height_of}
use Rattle.tree.specs.Contract.{root_in, height_in}
use Rattle.tree.proofs.Word.{root-in-power, height-in-power}
use Rattle.tree.specs.Place.{first}
use Rattle.tree.specs.Walk.{Accepted, version_over, Stands}
use Rattle.tree.proofs.First.{first-root}
use Rattle.tree.proofs.Meets.{lt-or-le}
use Rattle.tree.proofs.Newest.{newest-le}
use Rattle.tree.proofs.Reach.{newest-above, newest-outside, reach-newest}
use Rattle.lines.specs.Lines.{pick, number_of, line_of, version_of}
use Rattle.lines.specs.declared.Branch.{Branch}
use Rattle.lines.proofs.Numbers.{number_is as code_is}
use Rattle.register.specs.Register.{part_of, update_of, version_part, newest_own}
use Rattle.register.specs.declared.Record.{Record}
use Rattle.register.proofs.Records.{newest-own-none, newest-own-met, newest-own-unmet}
use Rattle.versions.specs.declared.Store.{Store}
use Rattle.versions.specs.Store.{Areas, areas_of, line_in, number_on}
use Rattle.descent.specs.Places.{or_most, place_at}
use Rattle.descent.proofs.Levels.{reach_here, reach-none}
use Rattle.walk.specs.FindPage.{reach_from}
use Rattle.walk.proofs.FromRoot.{from-root, from_past}
use Rattle.weave.specs.Weave.{older_number}
use Rattle.model.specs.History.{updates}
use Rattle.model.specs.Model.{Limits, Model, line_at, history, number_in}
use Rattle.model.specs.Snapshot.{numbers_on}
use Rattle.model.proofs.Area.Image.{nodes_image}
use Rattle.model.proofs.Model.Sound.{Sound}
use Rattle.model.proofs.Model.Facts.{versions-most}
use Rattle.model.proofs.Model.Shown.{shown_at, update-shown}
use Rattle.model.proofs.Line.Owner.{owner-own}
use Rattle.model.proofs.Line.Numbers.{number_is, number-some}
use Rattle.model.proofs.Area.Woven.{published-upto}
use Rattle.model.proofs.Area.Found.{stands-image}
use Rattle.model.proofs.History.Stamps.{test-cases}
use Rattle.demands.proofs.Image.{register_image, store_image}
use Rattle.demands.proofs.Records.{update-image}
use Rattle.demands.proofs.Lines.{line-in, number-on, version-found}
use Rattle.demands.proofs.Steps.Found.{span-found, height-low, place_found}

-- ---- the newest among updates, by whether the last one meets the pages

module _ (us : List Update) (v a s : ℕ) where
  newest-met : meets (update us (suc v)).f (update us (suc v)).last a s ≡ true → newest us (suc v) a s ≡ suc v
  unfolding newest
  newest-met e = rw (e, newest)

  newest-unmet : meets (update us (suc v)).f (update us (suc v)).last a s ≡ false → newest us (suc v) a s ≡ newest us v a s
  unfolding newest
  newest-unmet e = rw (e, newest)

-- ---- a line's own versions

module _ (L : Limits) (m : Model) (S : Sound L m) (l : ℕ) (there : l < length m.lines) where
  -- The number of one of them is by the line itself.
  own-number : (v : ℕ) → (line_at m l).start < v → v ≤ length (line_at m l).shown → number_of l v ≡ number_in (history m l) v
  own-number v own h =
      let o : 0 < v = omega arith in
      omega (
        arith,
        code_is l v (omega (arith, S.few)) o (omega (arith, versions-most L m S l there)),
        number_is L m S l v there o h,
        owner-own L m S l v there o h own,
      )

  -- Its update in the register is the model's.
  own-update : (v : ℕ) → (line_at m l).start < v → v ≤ length (line_at m l).shown
      → update_of (version_part (register_image L m) (number_of l v)) ≡ update (updates (history m l)) v
  own-update v own h =
      let o : 0 < v = omega arith in
      ap (λ (c : ℕ). update_of (version_part (register_image L m) c)) (own-number v own h)
      ∙ ap (λ (r : Record). update_of (part_of r)) (version-found L m S l v there o h)
      ∙ update-image L m S (shown_at m l v) ((S.lines l there).some v o h) ((S.lines l there).most v o h)
      ∙ sym (update-shown m l v)

  -- The search above a version b that is not below the line's start.
  module _ (b : ℕ) (from : (line_at m l).start ≤ b) (a s : ℕ) where
    abbrev newest_in : ℕ → ℕ
    newest_in v = newest (updates (history m l)) v a s

    abbrev own_in : ℕ → ℕ
    own_in v = newest_own (register_image L m) l b v a s

    -- The newest up to v is above b, or it is that of the versions up to b.
    data Newest (v : ℕ) : Type 0 where
      above : b < newest_in v → own_in v ≡ newest_in v → Newest v
      upto : own_in v ≡ 0 → newest_in v ≡ newest_in (min v b) → Newest v

    newest-upto : (v : ℕ) → v ≤ b → Newest v
    newest-upto v h =
        let e : min v b ≡ v = omega arith in
        upto (newest-own-none (register_image L m) l b a s v h) (rw e)

    -- A version above b that does not meet the pages leaves the newest up to the one before it.
    newest-passed : (v : ℕ) → b < suc v → own_in (suc v) ≡ own_in v → newest_in (suc v) ≡ newest_in v → Newest v → Newest (suc v)
    newest-passed v o e f (above p q) = above (omega arith) (e ∙ q ∙ sym f)
    newest-passed v o e f (upto p q) =
        let k : min (suc v) b ≡ min v b = omega arith in
        upto (e ∙ p) (rw k (f ∙ q))

    newest-cases : (v : ℕ) → v ≤ length (line_at m l).shown → Newest v
    newest-cases zero h = newest-upto 0 (omega arith)
    newest-cases (suc v) h = elim (lt-or-le b (suc v)) [
      | inr p ↦ newest-upto (suc v) p
      | inl p ↦
          let us = updates (history m l) in
          let rs = register_image L m in
          let u = own-update (suc v) (omega arith) h in
          elim (test-cases (meets (update us (suc v)).f (update us (suc v)).last a s)) [
            | inl e ↦
                let n = newest-met us v a s e in
                above (omega arith) (newest-own-met rs l b a s v p (rw u e) ∙ sym n)
            | inr e ↦
                newest-passed v p (newest-own-unmet rs l b a s v p (rw u e)) (newest-unmet us v a s e) (newest-cases v (omega arith))
          ]
    ]

-- ---- the tree of a published version

-- From no version nothing is reached.
from_zero : (x : Areas) (span p j : ℕ) → reach_from x 0 span p j ≡ Some 0
from_zero x span p j = elim (lt-or-le p (root_in span)) [
  | inl q ↦ from-root x 0 span p j q ∙ reach-none (place_at x.register) x.nodes j p (height_in span - j)
  | inr q ↦ from_past x 0 span p j q
]

module _ (L : Limits) (m : Model) (S : Sound L m) (l : ℕ) (there : l < length m.lines) where
  module _ (v : ℕ) (o : 0 < v) (h : v ≤ (line_at m l).published) where
    abbrev at : ℕ → ℕ → ℕ → Option ℕ
    at = place_at (register_image L m)

    accepted : (w : ℕ) → w < v → Accepted (updates (history m l)) w
    accepted w q = (S.lines l there).accepted w (omega (arith, published-upto L m S l there v h))

    low : height_of (updates (history m l)) v ≤ 12
    low = height-low L m S l there v o (published-upto L m S l there v h)

    root : root_in (2 ^ height_of (updates (history m l)) v) ≡ 2 ^ height_of (updates (history m l)) v
    root = root-in-power (height_of (updates (history m l)) v) low

    high : height_in (2 ^ height_of (updates (history m l)) v) ≡ height_of (updates (history m l)) v
    high = height-in-power (height_of (updates (history m l)) v) low

    called : (w : ℕ) → 0 < w → w ≤ v → 0 < number_in (history m l) w
    called w p q = number-some L m S l w there p (omega (arith, published-upto L m S l there v h))

    stands : (p j : ℕ) → 0 < version_over (updates (history m l)) v p j → j ≤ height_of (updates (history m l)) v → p < 2 ^ height_of (updates (history m l)) v
        → Stands (updates (history m l)) (numbers_on m l) at (nodes_image L m) v p j
    stands = stands-image L m S l there at v h (λ w p j q r e s. place_found L m S l there w q (omega (arith, published-upto L m S l there v h)) p j e s)

    module _ (a j : ℕ) (grid : first a j ≡ a) where
      abbrev us : List Update
      us = updates (history m l)

      -- Within the root, down from it; from a height above the root's the version itself.
      reach-inside : a < 2 ^ height_of us v → reach_from (areas_of [] (nodes_image L m) (register_image L m)) (number_in (history m l) v) (2 ^ height_of us v) a j
          ≡ Some (number_in (history m l) (newest us v a (2 ^ j)))
      reach-inside r =
          let x = areas_of [] (nodes_image L m) (register_image L m) in
          let d = number_in (history m l) v in
          let H = height_of us v in
          from-root x d (2 ^ H) a j (rw root r)
          ∙ elim (lt-or-le H j) [
            | inl q ↦
                let zero-first : a ≡ 0 = sym grid ∙ first-root a j (omega (arith, pow_mono {i = H} {j = j} (omega arith))) in
                let top : newest us v a (2 ^ j) ≡ v = rw zero-first (newest-above us v accepted j o (omega arith)) in
                reach_here at (nodes_image L m) j a (height_in (2 ^ H)) d (omega (arith, high)) ∙ sym (ap (λ (w : ℕ). Some (number_in (history m l) w)) top)
            | inr q ↦
                rw high
                (reach-newest us v accepted (numbers_on m l) at (nodes_image L m) refl called stands j a r (H - j) (omega arith)
                ∙ ap (λ (b : ℕ). Some (number_in (history m l) (newest us v b (2 ^ j)))) grid)
          ]

      reach-outside : 2 ^ height_of us v ≤ a → reach_from (areas_of [] (nodes_image L m) (register_image L m)) (number_in (history m l) v) (2 ^ height_of us v) a j
          ≡ Some (number_in (history m l) (newest us v a (2 ^ j)))
      reach-outside r =
          from_past (areas_of [] (nodes_image L m) (register_image L m)) (number_in (history m l) v) (2 ^ height_of us v) a j (rw root r)
          ∙ sym (ap (λ (w : ℕ). Some (number_in (history m l) w)) (newest-outside us v accepted a (2 ^ j) r))

      reach-published : reach_from (areas_of [] (nodes_image L m) (register_image L m)) (number_in (history m l) v) (2 ^ height_of us v) a j
          ≡ Some (number_in (history m l) (newest us v a (2 ^ j)))
      reach-published = elim (lt-or-le a (2 ^ height_of us v)) [ inl r ↦ reach-inside r | inr r ↦ reach-outside r ]

  -- The node over a page that stands at a height in the tree of a published version, or of version 0, is the newest's.
  tree-newest : (v a j : ℕ) → v ≤ (line_at m l).published → first a j ≡ a
      → let d = number_in (history m l) v in
      reach_from (areas_of [] (nodes_image L m) (register_image L m)) d (version_part (register_image L m) d).span a j
      ≡ Some (number_in (history m l) (newest (updates (history m l)) v a (2 ^ j)))
  tree-newest zero a j h grid =
      let none : newest (updates (history m l)) 0 a (2 ^ j) ≡ 0 = omega (arith, newest-le (updates (history m l)) 0 a (2 ^ j)) in
      rw none (from_zero (areas_of [] (nodes_image L m) (register_image L m)) (version_part (register_image L m) 0).span a j)
  tree-newest (suc v) a j h grid =
      let o : 0 < suc v = omega arith in
      rw (span-found L m S l there (suc v) o (published-upto L m S l there (suc v) h)) (reach-published (suc v) o h a j grid)

-- ---- the search

-- By the line and the version that a number says.
older-by : (x : Store) (nodes : List ℕ) (rs : List Record) (c a j l v p d : ℕ) → line_of c ≡ l → version_of c ≡ v → (line_in x l).published.0 ≡ p → number_on x l p ≡ d
    → older_number x nodes rs c a j
    ≡ pick (ltb 0 (newest_own rs l p (v - 1) a (2 ^ j))) (number_of l (newest_own rs l p (v - 1) a (2 ^ j)))
    (or_most (reach_from (areas_of [] nodes rs) d (version_part rs d).span a j))
unfolding older_number
older-by x nodes rs c a j l v p d e f g h = rw (e, f, g, h)

module _ (L : Limits) (m : Model) (S : Sound L m) (l v : ℕ) (there : l < length m.lines) (late : (line_at m l).published < v) (h : v ≤ length (line_at m l).shown)
    (a j : ℕ) (grid : first a j ≡ a)
    (misses : meets (update (updates (history m l)) v).f (update (updates (history m l)) v).last a (2 ^ j) ≡ false) where
  abbrev last : ℕ
  last = (line_at m l).published

  abbrev newest_at : ℕ → ℕ
  newest_at w = newest (updates (history m l)) w a (2 ^ j)

  -- The version's own update does not meet the pages, so that the newest is one before it.
  before : newest_at v ≡ newest_at (v - 1)
  before =
      let e : suc (v - 1) ≡ v = omega arith in
      rw e at (newest-unmet (updates (history m l)) (v - 1) a (2 ^ j) (rw e misses))

  search : pick (ltb 0 (newest_own (register_image L m) l last (v - 1) a (2 ^ j))) (number_of l (newest_own (register_image L m) l last (v - 1) a (2 ^ j)))
      (or_most (reach_from (areas_of [] (nodes_image L m) (register_image L m)) (number_in (history m l) last) (version_part (register_image L m) (number_in (history m l) last)).span a j))
      ≡ number_in (history m l) (newest_at v)
  search = elim (newest-cases L m S l there last (S.lines l there).started a (2 ^ j) (v - 1) (omega arith)) [
    | above p q ↦
        let le = newest-le (updates (history m l)) (v - 1) a (2 ^ j) in
        rw (q, lt-ltb 0 (newest_at (v - 1)) (omega arith), before) (own-number L m S l there (newest_at (v - 1)) (omega (arith, (S.lines l there).started)) (omega arith))
    | upto p q ↦
        let e : min (v - 1) last ≡ last = omega arith in
        let f : newest_at v ≡ newest_at last = before ∙ q ∙ ap newest_at e in
        rw (p, f) (ap or_most (tree-newest L m S l there last a j (omega arith) grid))
  ]

  -- The number that WEAVE looks for is the newest's, for the version that c numbers.
  pub older-newest : (c : ℕ) → line_of c ≡ l → version_of c ≡ v
      → older_number (store_image L m) (nodes_image L m) (register_image L m) c a j ≡ number_in (history m l) (newest_at v)
  older-newest c e f =
      older-by (store_image L m) (nodes_image L m) (register_image L m) c a j l v last (number_in (history m l) last) e f
      (ap (λ (b : Branch). b.published.0) (line-in L m S l)) (number-on L m S l there last (published-upto L m S l there last (omega arith)))
      ∙ search
