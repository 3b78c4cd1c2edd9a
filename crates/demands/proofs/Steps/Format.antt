-- FORMAT leaves the image of the model that has nothing, with no windows.
-- Assumes nothing.
use mathlib.Core.Path.{◌≡◌, refl, sym, ◌∙◌}
use Prim.Native.Nat.{ℕ, zero, suc, ◌+◌, ◌*◌}
use native.Mathlib.Nat.{mul-zero, mul-suc}
use native.Mathlib.Omega.{arith}
use borrow.Author.Tests.{lt-ltb, le-ltb}
use lib.ListN.{replicate, replicate-append-replicate}
use Rattle.tree.specs.Tree.{height_from, root_height}
use Rattle.tree.specs.Contract.{root_span}
use Rattle.tree.specs.NodeArea.{all_ones}
use Rattle.tree.proofs.Halved.{halved-zero}
use Rattle.lines.specs.Lines.{packed, no_lines}
use Rattle.lines.proofs.States.{sources_of}
use Rattle.lines.proofs.Packed.{entries-same}
use Rattle.register.specs.Register.{no_record}
use Rattle.table.specs.Table.{format_rows}
use Rattle.windows.specs.Windows.{placed}
use Rattle.versions.specs.Store.{Areas}
use Rattle.format.specs.Format.{format_refusal, format_number}
use Rattle.table.proofs.Table.{passed, unless-0}
use Rattle.model.specs.InTurn.{joined}
use Rattle.model.specs.Model.{Limits, no_model, no_line, line_at, update_from}
use Rattle.demands.specs.Run.{fresh_of, formatted_state}
use Rattle.model.proofs.Lists.Laid.{tab, ones_pair, flat}
use Rattle.model.proofs.Area.Image.{blank, pages_image, nodes_image}
use Rattle.demands.proofs.Image.{mask_of, own_at, record_image, register_image, sources_image, lines_image, store_image, image}
use Rattle.demands.proofs.Steps.States.{state-same}
use Rattle.model.proofs.Area.LayoutLaws.{nodes-used-none, pages-used-none, nodes-none, pages-none}
use Rattle.model.proofs.Lists.Tab.{tab-same, replicate-tab}

blanks : (size n : ℕ) → joined (tab n (λ (q : ℕ). blank size)) ≡ replicate (size * n) 0
unfolding joined tab
blanks size zero = rw (mul-zero size)
blanks size (suc n) =
    let e : size + size * n ≡ size * suc n = omega (arith, mul-suc size n) in
    rw (blanks size n, ← e) (replicate-append-replicate size (size * n) 0)

ones : (n : ℕ) → flat (tab n (λ (q : ℕ). ones_pair)) ≡ replicate (2 * n) all_ones
unfolding flat tab
ones zero = refl
ones (suc n) =
    let e : 2 * suc n ≡ suc (suc (2 * n)) = omega arith in
    rw (e, ones n)

-- No line but line 0 has begun, and that shows nothing.
line-blank : (l : ℕ) → line_at no_model l ≡ no_line
line-blank zero = refl
line-blank (suc l) = refl

own-blank : (i l : ℕ) → own_at no_model l (suc i) ≡ 0
own-blank i l = rw (line-blank l, lt-ltb 0 (suc i) (omega arith))

module _ (L : Limits) where
  pages-blank : pages_image L no_model ≡ replicate (L.size * L.pages) 0
  pages-blank = pages-none L ∙ blanks L.size L.pages

  nodes-blank : nodes_image L no_model ≡ replicate (2 * L.nodes) all_ones
  nodes-blank = nodes-none L ∙ ones L.nodes

  register-blank : register_image L no_model ≡ replicate L.updates no_record
  unfolding register_image update_from mask_of root_span root_height height_from
  register-blank = tab-same L.updates (record_image no_model) (λ (i : ℕ). no_record) (λ i h. rw (le-ltb i 0 (omega arith), halved-zero, entries-same (λ l. own_at no_model l (suc i)) (λ _. 0) (λ l z. own-blank i l))) ∙ sym (replicate-tab L.updates no_record)

  sources-blank : sources_image no_model ≡ 0
  unfolding sources_image sources_of
  sources-blank = refl

  lines-blank : lines_image no_model ≡ no_lines
  unfolding lines_image tab packed
  lines-blank = refl

  store-blank : fresh_of L ≡ store_image L no_model
  store-blank = rw (sources-blank, lines-blank, nodes-used-none, pages-used-none)

  pub format-image : (a : Areas) → format_number (fresh_of L) a ≡ 0 → formatted_state L a ≡ image L no_model
  unfolding formatted_state format_refusal format_rows placed
  format-image a z =
      let r = (passed _ tt z).1.1.0 in
      state-same
      store-blank
      (unless-0 _ a.pages _ z ∙ rw r.0 (sym pages-blank))
      (unless-0 _ a.nodes _ z ∙ rw r.1.0 (sym nodes-blank))
      (unless-0 _ a.register _ z ∙ rw r.1.1 (sym register-blank))
