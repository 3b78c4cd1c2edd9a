-- SIZE on the image of a sound model is the model's; the sizes of versions, in pages and in bytes, as the image's register has them.
-- Assumes nothing.
use mathlib.Core.Path.{◌≡◌, refl, sym, ap, ◌∙◌}
use Prim.Native.Nat.{ℕ, zero, suc, ◌*◌, ◌≤◌, ◌<◌}
use native.Mathlib.Nat.{mul-le-mul}
use native.Mathlib.Omega.{arith}
use lib.ListN.{length}
use Rattle.tree.specs.Tree.{Update}
use Rattle.register.specs.Register.{part_of}
use Rattle.register.specs.declared.Part.{Part}
use Rattle.register.proofs.Records.{version-own}
use Rattle.versions.specs.Store.{number_on, part_on}
use Rattle.versions.specs.Size.{pages_by, pages_in, bytes_by, bytes_in, not_there, size_number}
use Rattle.table.specs.Table.{size_rows}
use Rattle.model.specs.Calls.{size, size_is, says, answers}
use Rattle.model.specs.History.{version_at}
use Rattle.model.specs.Model.{Limits, Model, line_at, history}
use Rattle.model.specs.OnModel.{model_outcome, size_number as model_number}
use Rattle.model.proofs.Model.Sound.{Sound}
use Rattle.model.proofs.History.SoundHistory.{line-history, size_small}
use Rattle.model.proofs.Model.Shown.{versions-length}
use Rattle.model.proofs.History.Updates.{update-at}
use Rattle.model.proofs.Model.Passed.{size-passed}
use Rattle.model.proofs.Area.Woven.{published-upto}
use Rattle.demands.specs.Answers.{sized_answer}
use Rattle.demands.specs.Run.{store_outcome}
use Rattle.demands.proofs.Image.{register_image, store_image, areas_image, image}
use Rattle.demands.proofs.Lines.{lines-in, line-in, number-on, part-on, name-shown}
use Rattle.demands.proofs.Readings.{answers-same, sized_reads}
use Rattle.demands.proofs.Steps.Numbers.{alike_same, image-number}
use Rattle.demands.proofs.Steps.Found.{update_found}
use Rattle.table.specs.Refused.{answered}

size-answer : (k a b : ℕ) → (k ≡ 0 → a ≡ b) → sized_answer (answered k a) ≡ answers k (size_is b)
size-answer k a b h = sized_reads k a ∙ answers-same k (size_is a) (size_is b) (λ z. ap size_is (h z))

module _ (L : Limits) (m : Model) (S : Sound L m) (l : ℕ) (there : l < length m.lines) where
  -- The record of a version is there.
  pub name-there : (v : ℕ) → v ≤ length (line_at m l).shown → (part_on (store_image L m) (areas_image L m) l v).name ≡ number_on (store_image L m) l v
  name-there zero h = ap (λ r. (part_of r).name) (version-own (register_image L m) 0 refl)
  name-there (suc v) h =
      ap (λ (q : Part). q.name) (part-on L m S l (suc v) there (omega arith) h)
      ∙ name-shown L m S l (suc v) there (omega arith) h
      ∙ sym (number-on L m S l there (suc v) h)

  pub pages-in : (v : ℕ) → v ≤ length (line_at m l).shown → pages_in (store_image L m) (areas_image L m) l v ≡ (version_at (history m l) v).size
  pages-in zero h = refl
  pages-in (suc v) h =
      ap (pages_by (suc v)) (part-on L m S l (suc v) there (omega arith) h)
      ∙ ap (λ (u : Update). u.size) (update_found L m S l there (suc v) (omega arith) h ∙ update-at (history m l) (suc v))

  -- A size in bytes fits in 64 bits.
  pub bytes-in : (v : ℕ) → v ≤ length (line_at m l).shown → bytes_in (store_image L m) (areas_image L m) l v ≡ L.size * (version_at (history m l) v).size
  unfolding bytes_by
  bytes-in v h =
      rw (pages-in v h)
      (omega (arith, mul-le-mul S.allowed.page_size (size_small L (history m l) (line-history L m S l there) v (omega (arith, versions-length m l)))))

module _ (L : Limits) (m : Model) (S : Sound L m) (l : ℕ) where
  size-number : (v : ℕ) → size_number (store_image L m) (areas_image L m) l v ≡ model_number L m l v
  unfolding size_number
  size-number v =
      rw (lines-in L m S, line-in L m S l)
      (let rows = size_rows l (length m.lines) v (line_at m l).published in
      image-number L m S rows rows (not_there (part_on (store_image L m) (areas_image L m) l v) (number_on (store_image L m) l v)) (alike_same rows)
      (λ z. let p = size-passed L m l v z in name-there L m S l p.line v (published-upto L m S l p.line v p.published)))

  pub size-outcome : (v : ℕ) → store_outcome (image L m) l (size v) ≡ model_outcome L m l (size v)
  unfolding store_outcome model_outcome
  size-outcome v =
      let k = model_number L m l v in
      let s = store_image L m in
      let a = areas_image L m in
      let bytes : k ≡ 0 → bytes_in s a l v ≡ L.size * (version_at (history m l) v).size =
      λ z. let p = size-passed L m l v z in bytes-in L m S l p.line v (published-upto L m S l p.line v p.published) in
      let done = size-answer k (bytes_in s a l v) (L.size * (version_at (history m l) v).size) bytes in
      rw (size-number v) (ap says done)
