-- The register after ASSIGN on the image of a sound model, three records written one after the other, is that of the model after.
-- Assumes nothing.
use mathlib.Core.Path.{◌≡◌, refl, sym, ap, ap₂, ◌∙◌}
use mathlib.Core.Logic.{◌≢◌}
use Prim.Native.Nat.{ℕ, suc, ◌+◌, ◌-◌, ◌*◌, ◌<◌}
use native.Mathlib.Decide.{ℕ_discrete}
use native.Mathlib.Omega.{arith}
use borrow.Author.Tests.{lt-ltb}
use lib.ListN.{length, get_or}
use Rattle.tree.specs.Tree.{Update, root_height}
use Rattle.lines.specs.Lines.{number_of, with_entry}
use Rattle.lines.proofs.Numbers.{number_is as code_is}
use Rattle.lines.proofs.Packed.{with-of}
use Rattle.register.specs.Register.{no_record, limited, with_record}
use Rattle.register.specs.declared.Record.{Record}
use Rattle.assign.specs.Assign.{with_update_of, with_update_part, with_entry_of, assigned_register, part_by}
use Rattle.model.specs.History.{no_version, pages_of}
use Rattle.model.specs.Model.{Limits, Model, line_at}
use Rattle.model.specs.Layout.{nodes_used}
use Rattle.model.specs.OnModel.{ticket_in, size_after, next_version, next_update, assigned}
use Rattle.model.proofs.Lists.Laid.{tab}
use Rattle.model.proofs.Model.Sound.{Sound}
use Rattle.model.proofs.Model.Passed.{AssignPassed}
use Rattle.model.proofs.Model.Facts.{versions-few, versions-most}
use Rattle.model.proofs.Lists.Nth.{nth-new}
use Rattle.model.proofs.Lists.Tab.{get_or-tab}
use Rattle.model.proofs.Model.Updated.{update_other}
use Rattle.model.proofs.Calls.Grows.{Grown}
use Rattle.model.proofs.Area.LayoutLaws.{place_kept, place-new}
use Rattle.model.proofs.Calls.Kept.Assign.{assigned-length, assigned-grown, assigned-new, assigned-gets, assigned-this, assigned-other, assigned-passed}
use Rattle.demands.proofs.Image.{mask_of, number_at, first_place_at, own_at, record_image, register_image, store_image, areas_image}
use Rattle.demands.proofs.Records.{record-at, limited-same}
use Rattle.demands.proofs.Lines.{line-in, blob-small, own-low}
use Rattle.demands.proofs.Puts.{record-put}
use Rattle.demands.proofs.Steps.Grown.{number-at-kept}
use Rattle.demands.proofs.Steps.Parts.{UpdatePart, all, all_same, ticket_part, part_of, update_part, entries_at, ticket-part, update-part, entries-stay, other_at, other-begins, new-begins}

module _ (L : Limits) (m : Model) (S : Sound L m) (l t f : ℕ) (p : AssignPassed L m l (suc t) f) where
  -- The model after, how many updates there were, and how many versions the line had.
  abbrev after : Model
  after = assigned L m l (suc t) f

  abbrev count : ℕ
  count = length m.updates

  abbrev last : ℕ
  last = length (line_at m l).shown

  -- ---- the records are there

  ticket-there : t < L.updates
  ticket-there = omega (arith, p.upto, S.records)

  pub update-there : count < L.updates
  update-there = omega (arith, (assigned-passed L m l (suc t) f S p).fewer, assigned-length L m l (suc t) f, S.records)

  pub version-there : last < L.updates
  version-there = omega (arith, update-there, versions-few L m S l p.line)

  -- The numbers and places of what was there stay.
  grown : Grown m after
  grown = assigned-grown L m l (suc t) f p.line

  -- ---- each sort of part changes at one index

  -- The ticket gets the update.
  ticket-stays : (j : ℕ) → j ≢ t → ticket_part m j ≡ ticket_part after j
  ticket-stays j n = ticket-part m after j refl (number-at-kept L m after S grown refl j) (update_other 1 m.updates (next_version L m l (suc t) f) (suc j) (λ e. n (omega arith)))

  ticket-gets : ticket_part after t
      ≡ record { n = pages_of (ticket_in m (suc t)); number = number_at m t; put = mask_of (ticket_in m (suc t)).slots; update = suc count }
  ticket-gets = rw (number-at-kept L m after S grown refl t, assigned-gets L m l (suc t) f p.unassigned)

  -- The update is a new one.
  update-stays : (j : ℕ) → j ≢ count → update_part m j ≡ update_part after j
  update-stays j n =
      update-part m after j (other_at no_version m.updates (next_version L m l (suc t) f) j n) refl
      (rw (assigned-length L m l (suc t) f) (other-begins j count _ _ n (λ h. place_kept m after grown (suc j) 0 h)))

  next-number : number_of l (suc last) ≡ l * 65536 + suc last
  next-number = code_is l (suc last) (omega (arith, p.line, S.few)) (omega arith) (omega (arith, versions-most L m S l p.line))

  -- The update's part, where its pages and its size are brought within the limits, which leaves them as they are.
  abbrev new_part : Update → UpdatePart
  new_part u = record {
    ticket = record { 0 = suc t };
    part = part_by u (number_of l (suc last)) f (f + pages_of (ticket_in m (suc t)) - 1) (size_after L m l (suc t) f) (nodes_used m + root_height u.size);
  }

  abbrev limited_part : UpdatePart
  limited_part = new_part (limited f (f + pages_of (ticket_in m (suc t)) - 1) (size_after L m l (suc t) f))

  within-limits : limited f (f + pages_of (ticket_in m (suc t)) - 1) (size_after L m l (suc t) f) ≡ next_update L m l (suc t) f
  within-limits =
      let some = (S.tickets (suc t) p.from p.upto).some-pages in
      limited-same f (f + pages_of (ticket_in m (suc t)) - 1) (size_after L m l (suc t) f) (omega arith) (omega arith) (omega (arith, p.inside, blob-small L m S l))

  update-new : update_part after count ≡ limited_part
  update-new =
      let place : first_place_at after count ≡ nodes_used m = rw (assigned-length L m l (suc t) f) (new-begins count _ ∙ place-new m after grown (assigned-length L m l (suc t) f)) in
      let part : part_of m.tickets (next_version L m l (suc t) f) (nodes_used m) ≡ new_part (next_update L m l (suc t) f) =
      rw ((S.tickets (suc t) p.from p.upto).unwoven p.unassigned, next-number, lt-ltb 0 (suc t) p.from) in
      ap₂ (part_of m.tickets) (assigned-new L m l (suc t) f) place ∙ part ∙ ap new_part (sym within-limits)

  -- The line has one version of its own more.
  own-stays : (k j : ℕ) → (k ≡ l → j ≢ last) → own_at m k (suc j) ≡ own_at after k (suc j)
  own-stays k j n = elim (ℕ_discrete k l) [
    | yes e ↦ rw (e, assigned-this L m l (suc t) f p.line, other_at 0 (line_at m l).shown (suc count) j (n e))
    | no d ↦ rw (assigned-other L m l (suc t) f p.line k d)
  ]

  own_new : own_at after l (suc last) ≡ suc count
  own_new =
      let x = S.lines l p.line in
      rw (
        assigned-this L m l (suc t) f p.line,
        lt-ltb (line_at m l).start (suc last) (omega (arith, x.started, x.published)),
        nth-new 0 (line_at m l).shown (suc count),
      )

  entries-other : (j : ℕ) → j ≢ last → entries_at m j ≡ entries_at after j
  entries-other j n = entries-stay m after j (λ k h. own-stays k j (λ e. n))

  entries-new : with_entry (entries_at m last) l (suc count) ≡ entries_at after last
  entries-new =
      with-of (λ k. own_at m k (suc last)) (λ k h. own-low L m S k (suc last)) l (omega (arith, p.line, S.few)) (suc count)
      (omega (arith, update-there, S.allowed.updates)) (λ k. own_at after k (suc last)) own_new (λ k h n. sym (own-stays k last (λ e. absurd (n e))))

  -- ---- the three writes

  -- The records with the ticket's update, and with the update's part too.
  abbrev first : ℕ → Record
  first j = all (ticket_part after j) (update_part m j) (entries_at m j)

  abbrev second : ℕ → Record
  second j = all (ticket_part after j) (update_part after j) (entries_at m j)

  first-written : with_record (register_image L m) t (with_update_of (record_image m t) (suc count)) ≡ tab L.updates first
  unfolding register_image
  first-written =
      record-put L.updates t (record_image m) first _ ticket-there (λ j h n. all_same (ticket-stays j n) refl refl) (all_same ticket-gets refl refl)

  second-written : with_record (tab L.updates first) count
      (with_update_part (get_or (tab L.updates first) count no_record) (suc t) (number_of l (suc last)) f (f + pages_of (ticket_in m (suc t)) - 1)
      (size_after L m l (suc t) f)
      (nodes_used m + root_height (limited f (f + pages_of (ticket_in m (suc t)) - 1) (size_after L m l (suc t) f)).size))
      ≡ tab L.updates second
  second-written =
      record-put L.updates count first second _ update-there (λ j h n. all_same refl (update-stays j n) refl)
      (rw (get_or-tab L.updates first count no_record update-there) (all_same refl update-new refl))

  third-written : with_record (tab L.updates second) last (with_entry_of (get_or (tab L.updates second) last no_record) l (suc count)) ≡ register_image L after
  unfolding register_image
  third-written =
      record-put L.updates last second (record_image after) _ version-there (λ j h n. all_same refl refl (entries-other j n))
      (rw (get_or-tab L.updates second last no_record version-there) (all_same refl refl (sym entries-new)))

  pub assigned-register : assigned_register (store_image L m) (areas_image L m) l (suc t) f ≡ register_image L after
  assigned-register = rw (line-in L m S l, record-at L m t ticket-there, first-written, second-written) third-written
