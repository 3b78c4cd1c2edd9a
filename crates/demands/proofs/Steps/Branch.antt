-- BRANCH on the image of a sound model is the model's.
-- Assumes nothing.
use mathlib.Core.Path.{◌≡◌, refl, sym, ap, ◌∙◌}
use mathlib.Core.Logic.{inl, inr, ◌≢◌}
use mathlib.Core.List.{List, []}
use Prim.Native.Nat.{ℕ, zero, suc, ◌%◌, ◌≤◌, ◌<◌}
use native.Mathlib.Nat.{mod-eq_of_lt}
use native.Mathlib.Decide.{ℕ_discrete}
use native.Mathlib.Omega.{arith}
use borrow.Author.Tests.{lt-ltb, le-ltb}
use lib.Dec.{ltb}
use lib.ListN.{length, take, get_or-eq_default}
use lib.Seq.{length-take-le}
use Rattle.tree.specs.Tree.{nth}
use Rattle.tree.proofs.Meets.{lt-or-le}
use Rattle.table.specs.Table.{unless, branch_rows}
use Rattle.versions.specs.declared.Store.{Store}
use Rattle.versions.specs.Store.{lines_in, number_on, part_on}
use Rattle.versions.specs.Size.{not_there, pages_in}
use Rattle.branch.specs.Branch.{branch_number, begun_from, with_branch, branched as branched_case}
use Rattle.model.specs.Calls.{on, BRANCH, line_is, answers}
use Rattle.model.specs.History.{Version, blob_size}
use Rattle.model.specs.Model.{Limits, Line, Model, no_line, line_at, update_at, history}
use Rattle.model.specs.OnModel.{branch_number as model_number, branched, either, on_line, on_model}
use Rattle.model.proofs.Lists.Tab.{tab-same}
use Rattle.model.proofs.Lists.Nth.{nth_past}
use Rattle.model.proofs.Area.Image.{pages_image, nodes_image}
use Rattle.model.proofs.Area.LayoutLaws.{nodes-used-kept, pages-used-kept, pages-same}
use Rattle.model.proofs.Model.Sound.{Sound}
use Rattle.model.proofs.Model.Passed.{BranchPassed, branch-passed}
use Rattle.model.proofs.Area.Woven.{published-upto}
use Rattle.model.proofs.Model.Shown.{shown_at, version-shown, blob-shown}
use Rattle.model.proofs.Calls.Kept.Branch.{branched-length, branched-old, branched-new, branched-shown, branched-grown}
use Rattle.demands.specs.Answers.{branched_answer}
use Rattle.demands.specs.Run.{on_line_of, on_store}
use Rattle.demands.proofs.Image.{own_at, record_image, register_image, branch_image, store_image, windows_image, areas_image, image}
use Rattle.demands.proofs.Lines.{lines-in, line-in, sources-written, words-written}
use Rattle.demands.proofs.Steps.Numbers.{alike_same, image-number}
use Rattle.demands.proofs.Steps.States.{leaves, state_of, state-same}
use Rattle.demands.proofs.Steps.Parts.{entries-stay}
use Rattle.demands.proofs.Steps.Grown.{nodes-grown, record_same}
use Rattle.demands.proofs.Steps.Size.{name-there, pages-in}

-- A line that shows nothing, or nothing above its start, has no version of its own.
no_own : (w : ℕ) → ◌≡◌ {A = ℕ} (either (ltb 0 w) (nth 0 [] w) 0) 0
no_own zero = refl
no_own (suc w) = rw (lt-ltb 0 (suc w) (omega arith))

none-own : (v : ℕ) (xs : List ℕ) (w : ℕ) → length xs ≤ v → ◌≡◌ {A = ℕ} (either (ltb v w) (nth 0 xs w) 0) 0
none-own v xs w h = elim (lt-or-le v w) [
  | inl k ↦ rw (lt-ltb v w k) (nth_past 0 xs w (omega arith))
  | inr k ↦ rw (le-ltb v w k)
]

module _ (L : Limits) (m : Model) (S : Sound L m) (l v : ℕ) where
  branch-number : branch_number (store_image L m) (areas_image L m) l v ≡ model_number L m l v
  unfolding branch_number
  branch-number =
      rw (lines-in L m S, line-in L m S l)
      (let rows = branch_rows l (length m.lines) v (line_at m l).published in
      image-number L m S rows rows (not_there (part_on (store_image L m) (areas_image L m) l v) (number_on (store_image L m) l v)) (alike_same rows)
      (λ z. let p = branch-passed L m l v z in name-there L m S l p.line v (published-upto L m S l p.line v p.published)))

  -- ---- what it leaves

  module _ (p : BranchPassed m l v) where
    abbrev after : Model
    after = branched L m l v

    -- Every other line stays, also those that have not begun.
    line_stays : (j : ℕ) → j ≢ length m.lines → line_at after j ≡ line_at m j
    line_stays j n = elim (lt-or-le j (length m.lines)) [
      | inl h ↦ branched-old L m l v j h
      | inr h ↦
          get_or-eq_default after.lines no_line (omega (arith, branched-length L m l v, n)) ∙ sym (get_or-eq_default m.lines no_line h)
    ]

    -- The source shows v, so that the new line shows v versions.
    upto : v ≤ length (line_at m l).shown
    upto = published-upto L m S l p.line v p.published

    shows : length (take v (line_at m l).shown) ≡ v
    shows = length-take-le v (line_at m l).shown upto

    -- The new line has no version of its own, and the others' stay.
    own_same : (j w : ℕ) → own_at m j w ≡ own_at after j w
    own_same j w = elim (ℕ_discrete j (length m.lines)) [
      | yes e ↦
          ap (λ (x : Line). either (ltb x.start w) (nth 0 x.shown w) 0) (get_or-eq_default m.lines no_line (omega arith))
          ∙ no_own w
          ∙ sym (none-own v (take v (line_at m l).shown) w (omega (arith, shows)))
          ∙ ap (λ (x : Line). either (ltb x.start w) (nth 0 x.shown w) 0) (sym (ap (line_at after) e ∙ branched-new L m l v))
      | no n ↦ rw (line_stays j n)
    ]

    branched-register : register_image L m ≡ register_image L after
    unfolding register_image
    branched-register = tab-same L.updates (record_image m) (record_image after) (λ i h. record_same L m after S (branched-grown L m l v) refl refl i (entries-stay m after i (λ j z. own_same j (suc i))))

    branched-pages : pages_image L m ≡ pages_image L after
    branched-pages = pages-same m after (branched-grown L m l v) L refl (λ t i o h k s. refl)

    branched-nodes : nodes_image L m ≡ nodes_image L after
    branched-nodes = nodes-grown L m after S (branched-grown L m l v) (λ k o h. refl) refl

    -- The new line's state: it begins from version v, which is its last.
    new-blob : blob_size (history after (length m.lines)) ≡ pages_in (store_image L m) (areas_image L m) l v
    new-blob =
        let n = length m.lines in
        blob-shown after n
        ∙ ap (λ (w : ℕ). (update_at m (shown_at after n w)).size) (ap (λ (x : Line). length x.shown) (branched-new L m l v) ∙ shows)
        ∙ ap (λ (k : ℕ). (update_at m k).size) (branched-shown L m l v v (omega arith))
        ∙ sym (ap (λ (x : Version). x.size) (version-shown m l v))
        ∙ sym (pages-in L m S l p.line v upto)

    near : l < 16
    near = omega (arith, p.line, S.few)

    branched-state : branch_image after (length m.lines) ≡ begun_from l v (pages_in (store_image L m) (areas_image L m) l v)
    branched-state = λ i. record {
      source = record { 0 = (ap (λ (x : Line). x.source % 16) (branched-new L m l v) ∙ mod-eq_of_lt near) i };
      start = record { 0 = (branched-new L m l v i).start };
      assigned = record { 0 = (ap (λ (x : Line). length x.shown) (branched-new L m l v) ∙ shows) i };
      published = record { 0 = (branched-new L m l v i).published };
      blob = new-blob i;
    }

    branched-other : (j : ℕ) → j ≢ length m.lines → branch_image m j ≡ branch_image after j
    branched-other j n = rw (line_stays j n)

    branched-store : with_branch (store_image L m) (begun_from l v (pages_in (store_image L m) (areas_image L m) l v)) ≡ store_image L after
    branched-store =
        let n = length m.lines in
        let b = begun_from l v (pages_in (store_image L m) (areas_image L m) l v) in
        rw (
          lines-in L m S,
          branched-length L m l v,
          pages-used-kept m after (branched-grown L m l v) refl,
          nodes-used-kept m after (branched-grown L m l v) refl,
          sources-written L m S after n b p.line-left branched-state branched-other,
          words-written L m S after n b p.line-left branched-state branched-other,
        )

    branched-image : state_of (with_branch (store_image L m) (begun_from l v (pages_in (store_image L m) (areas_image L m) l v))) (windows_image m) (pages_image L m) (nodes_image L m) (register_image L m)
        ≡ image L after
    branched-image = state-same branched-store branched-pages branched-nodes branched-register

  branch_leaves : (k n : ℕ) (s : Store) → n ≡ length m.lines → (k ≡ 0 → state_of s (windows_image m) (pages_image L m) (nodes_image L m) (register_image L m) ≡ image L (branched L m l v))
      → leaves (state_of (unless k (store_image L m) s) (windows_image m) (pages_image L m) (nodes_image L m) (register_image L m)) (branched_answer (branched_case k n))
      ≡ leaves (image L (unless k m (branched L m l v))) (answers k (line_is (length m.lines)))
  unfolding unless
  branch_leaves zero n s e h = λ i. leaves (h refl i) (line_is (e i))
  branch_leaves (suc k) n s e h = refl

  pub branch-step : on_store (image L m) (on l (BRANCH v)) ≡ (image L (on_model L m (on l (BRANCH v))).0, (on_model L m (on l (BRANCH v))).1)
  unfolding on_store on_line_of on_model on_line
  branch-step =
      rw branch-number (branch_leaves (model_number L m l v) (lines_in (store_image L m)) _ (lines-in L m S) (λ z. branched-image (branch-passed L m l v z)))
