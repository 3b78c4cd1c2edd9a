-- PUBLISH on the image of a sound model is the model's.
-- Assumes nothing.
use mathlib.Core.Path.{◌≡◌, refl, sym, ap, ◌∙◌}
use mathlib.Core.Logic.{inl, inr, ◌≢◌}
use mathlib.Core.Bool.{Bool, true, false, not, ◌&&◌, and-false, false≢true}
use Prim.Native.Nat.{ℕ, zero, suc, ◌+◌, ◌-◌, ◌^◌, ◌≤◌, ◌<◌, min, pred}
use native.Mathlib.Decide.{ℕ_discrete}
use native.Mathlib.Omega.{arith}
use borrow.Author.Tests.{le-ltb}
use lib.ListN.{length}
use Rattle.tree.proofs.Meets.{lt-or-le}
use Rattle.lines.specs.Lines.{number_of}
use Rattle.lines.specs.declared.Branch.{Branch}
use Rattle.lines.proofs.Numbers.{number_is as code_is}
use Rattle.register.specs.Register.{part_of, version_part}
use Rattle.register.specs.declared.Part.{Part}
use Rattle.table.specs.Table.{unless, publish_rows}
use Rattle.table.proofs.Table.{Fails}
use Rattle.windows.specs.Windows.{inside, inside_some}
use Rattle.windows.proofs.Placed.{placed-inside}
use Rattle.versions.specs.Store.{line_in, with_line}
use Rattle.publish.specs.Publish.{has_next, number_by, next_number, next_part, lost, publish_number, due_by, with_published, published, store_if}
use Rattle.model.specs.Calls.{on, PUBLISH, published_is, waiting, held, answers}
use Rattle.model.specs.History.{complete, due}
use Rattle.model.specs.Model.{Limits, Model, line_at, history, number_in}
use Rattle.model.specs.OnModel.{publish_number as model_number, published as published_model, either, on_line, on_model}
use Rattle.model.proofs.Lists.Tab.{tab-same}
use Rattle.model.proofs.Area.Image.{pages_image, nodes_image}
use Rattle.model.proofs.Area.LayoutLaws.{nodes-used-kept, pages-used-kept, pages-same}
use Rattle.model.proofs.Model.Sound.{Sound}
use Rattle.model.proofs.Model.Passed.{publish-passed}
use Rattle.model.proofs.Model.Facts.{versions-most}
use Rattle.model.proofs.Model.Shown.{shown_at, versions-length, version-shown, update-shown}
use Rattle.model.proofs.Line.Numbers.{number_is}
use Rattle.model.proofs.Line.Owner.{owner-own}
use Rattle.model.proofs.Calls.Kept.Publish.{published-this, published-other, published-lines, published-grown}
use Rattle.demands.specs.Answers.{published_answer}
use Rattle.demands.specs.Run.{on_line_of, on_store}
use Rattle.demands.proofs.Image.{own_at, record_image, register_image, branch_image, store_image, windows_image, areas_image, image}
use Rattle.demands.proofs.Records.{woven-image, count-image}
use Rattle.demands.proofs.Lines.{lines-in, line-in, sources-written, words-written, name-shown}
use Rattle.demands.proofs.Steps.Numbers.{alike_same, image-number}
use Rattle.demands.proofs.Steps.States.{leaves, state_of, state-same}
use Rattle.demands.proofs.Steps.Parts.{entries-stay}
use Rattle.demands.proofs.Steps.Grown.{nodes-grown, record_same}
use Rattle.demands.proofs.Steps.Found.{part-found}
use Rattle.table.specs.Refused.{answered}

module _ (L : Limits) (m : Model) (S : Sound L m) (l : ℕ) where
  -- ---- the next version

  module _ (there : l < length m.lines) (next : (line_at m l).published < length (line_at m l).shown) where
    abbrev v : ℕ
    v = suc (line_at m l).published

    -- It is the line's own, so that its number is by the line.
    next-number : next_number (store_image L m) l ≡ number_in (history m l) v
    next-number =
        let most = versions-most L m S l there in
        let few : min ((line_at m l).published + 1) (2 ^ 64 - 1) ≡ v = omega arith in
        let own = owner-own L m S l v there (omega arith) next (omega (arith, (S.lines l there).started)) in
        ap (number_by l) (line-in L m S l)
        ∙ ap (number_of l) few
        ∙ code_is l v (omega (arith, S.few)) (omega arith) (omega arith)
        ∙ sym (number_is L m S l v there (omega arith) next ∙ rw own)

    next-part : next_part (store_image L m) (areas_image L m) l ≡ part_of (record_image m (pred (shown_at m l v)))
    next-part = ap (version_part (register_image L m)) next-number ∙ part-found L m S l there v (omega arith) next

  -- ---- the number

  next-there : (is_held : Bool) → l < length m.lines
      → Fails (lost is_held (line_in (store_image L m) l) (next_part (store_image L m) (areas_image L m) l) (next_number (store_image L m) l))
  next-there is_held there = elim (lt-or-le (line_at m l).published (length (line_at m l).shown)) [
    | inl h ↦
        inr
        (ap (λ (q : Part). q.name) (next-part there h)
        ∙ name-shown L m S l (suc (line_at m l).published) there (omega arith) h
        ∙ sym (next-number there h))
    | inr h ↦
        inl
        (ap (λ (b : Branch). not is_held && has_next b) (line-in L m S l)
        ∙ rw (le-ltb (line_at m l).published (length (line_at m l).shown) h, and-false))
  ]

  publish-number : (minute : ℕ) → publish_number (store_image L m) (windows_image m) (areas_image L m) l minute ≡ model_number L m l minute
  unfolding publish_number
  publish-number minute =
      rw (lines-in L m S)
      (let rows = publish_rows l (length m.lines) minute in
      let is_held = inside (windows_image m).places minute in
      image-number L m S rows rows
      (lost is_held (line_in (store_image L m) l) (next_part (store_image L m) (areas_image L m) l) (next_number (store_image L m) l))
      (alike_same rows) (λ z. next-there is_held (publish-passed L m l minute z).line))

  -- ---- whether it is due

  due-next : (there : l < length m.lines) (h : (line_at m l).published < length (line_at m l).shown)
      → due_by (branch_image m l) (part_of (record_image m (pred (shown_at m l (suc (line_at m l).published))))) ≡ due (history m l)
  unfolding due_by due complete
  due-next there h =
      let v = suc (line_at m l).published in
      let k = shown_at m l v in
      rw (
        woven-image L m S k ((S.lines l there).some v (omega arith) h) ((S.lines l there).most v (omega arith) h),
        count-image L m S k ((S.lines l there).some v (omega arith) h) ((S.lines l there).most v (omega arith) h),
        versions-length m l,
        version-shown m l v,
        update-shown m l v,
      )

  due-none : length (line_at m l).shown ≤ (line_at m l).published → (q : Part) → due_by (branch_image m l) q ≡ due (history m l)
  unfolding due_by due
  due-none h q = rw (versions-length m l, le-ltb (line_at m l).published (length (line_at m l).shown) h)

  due-same : l < length m.lines → due_by (line_in (store_image L m) l) (next_part (store_image L m) (areas_image L m) l) ≡ due (history m l)
  due-same there =
      ap (λ (b : Branch). due_by b (next_part (store_image L m) (areas_image L m) l)) (line-in L m S l)
      ∙ elim (lt-or-le (line_at m l).published (length (line_at m l).shown)) [
        | inl h ↦ ap (due_by (branch_image m l)) (next-part there h) ∙ due-next there h
        | inr h ↦ due-none h (next_part (store_image L m) (areas_image L m) l)
      ]

  -- ---- what it leaves

  module _ (there : l < length m.lines) where
    -- A line begins from the same and shows the same.
    own_same : (j v : ℕ) → own_at m j v ≡ own_at (published_model L m l) j v
    own_same j v = elim (ℕ_discrete j l) [
      | yes e ↦ rw (e, published-this L m l there)
      | no n ↦ rw (published-other L m l there j n)
    ]

    -- The areas do not tell how many versions are published.
    published-register : register_image L m ≡ register_image L (published_model L m l)
    unfolding register_image
    published-register =
        let m' = published_model L m l in
        tab-same L.updates (record_image m) (record_image m') (λ i h. record_same L m m' S (published-grown L m l there) refl refl i (entries-stay m m' i (λ j z. own_same j (suc i))))

    published-pages : pages_image L m ≡ pages_image L (published_model L m l)
    published-pages = pages-same m (published_model L m l) (published-grown L m l there) L refl (λ t i o h k s. refl)

    published-nodes : nodes_image L m ≡ nodes_image L (published_model L m l)
    published-nodes = nodes-grown L m (published_model L m l) S (published-grown L m l there) (λ k o h. refl) refl

    -- The line's state alone moves.
    published-state : branch_image (published_model L m l) l ≡ with_published (branch_image m l)
    published-state = rw (published-this L m l there)

    state-stays : (j : ℕ) → j ≢ l → branch_image m j ≡ branch_image (published_model L m l) j
    state-stays j n = rw (published-other L m l there j n)

    published-store : with_line (store_image L m) l (with_published (branch_image m l)) ≡ store_image L (published_model L m l)
    published-store =
        let m' = published_model L m l in
        let b = with_published (branch_image m l) in
        rw (
          published-lines L m l there,
          pages-used-kept m m' (published-grown L m l there) refl,
          nodes-used-kept m m' (published-grown L m l there) refl,
          sources-written L m S m' l b (omega (arith, S.few)) published-state state-stays,
          words-written L m S m' l b (omega (arith, S.few)) published-state state-stays,
        )

    published-image : state_of (with_line (store_image L m) l (with_published (line_in (store_image L m) l))) (windows_image m) (pages_image L m) (nodes_image L m) (register_image L m)
        ≡ image L (published_model L m l)
    published-image =
        state-same (ap (λ (b : Branch). with_line (store_image L m) l (with_published b)) (line-in L m S l) ∙ published-store) published-pages published-nodes published-register

  -- By the number k: whether the version is due is asked only where the line has begun, and matters only outside the windows.
  publish-leaves : (k : ℕ) (h b b' : Bool) (v : ℕ) → (k ≡ 0 → b ≡ b') → v ≡ (line_at m l).published
      → (k ≡ 0 → state_of (with_line (store_image L m) l (with_published (line_in (store_image L m) l))) (windows_image m) (pages_image L m) (nodes_image L m) (register_image L m)
      ≡ image L (published_model L m l))
      → leaves
      (state_of (unless k (store_image L m) (store_if (not h && b) (with_line (store_image L m) l (with_published (line_in (store_image L m) l))) (store_image L m))) (windows_image m)
      (pages_image L m) (nodes_image L m) (register_image L m))
      (published_answer (answered k (published h b (suc v))))
      ≡ leaves
      (image L (unless k m (either h m (either b' (published_model L m l) m))))
      (answers k (either h held (either b' (published_is (suc (line_at m l).published)) waiting)))
  unfolding unless
  publish-leaves zero true b b' v e n p = refl
  publish-leaves zero false true true v e n p = λ i. leaves (p refl i) (published_is (suc (n i)))
  publish-leaves zero false true false v e n p = absurd (false≢true (sym (e refl)))
  publish-leaves zero false false true v e n p = absurd (false≢true (e refl))
  publish-leaves zero false false false v e n p = refl
  publish-leaves (suc k) h b b' v e n p = refl

  pub publish-step : (minute : ℕ)
      → on_store (image L m) (on l (PUBLISH minute)) ≡ (image L (on_model L m (on l (PUBLISH minute))).0, (on_model L m (on l (PUBLISH minute))).1)
  unfolding on_store on_line_of on_model on_line
  publish-step minute =
      let line : model_number L m l minute ≡ 0 → l < length m.lines = λ z. (publish-passed L m l minute z).line in
      rw (publish-number minute, placed-inside m.windows minute, S.windows minute)
      (publish-leaves (model_number L m l minute) (inside_some m.windows minute) _ (due (history m l)) _ (λ z. due-same (line z))
      (ap (λ (b : Branch). b.published.0) (line-in L m S l)) (λ z. published-image (line z)))
