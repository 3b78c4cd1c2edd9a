-- BEGIN on the image of a sound model is the model's.
-- Assumes nothing.
use mathlib.Core.Path.{◌≡◌, refl, ap, sym}
use mathlib.Core.Logic.{◌≢◌}
use mathlib.Core.List.{List}
use Prim.Native.Nat.{ℕ, zero, suc}
use native.Mathlib.Omega.{arith}
use lib.ListN.{length, get_or, length-replicate}
use Rattle.register.specs.Register.{no_record, with_record}
use Rattle.register.specs.declared.Record.{Record}
use Rattle.table.specs.Table.{never, begin_rows, unless}
use Rattle.versions.specs.Store.{lengths_of}
use Rattle.begin.specs.Begin.{begin_refusal, with_ticket, with_ticket_part, begun as begun_case}
use Rattle.model.specs.Calls.{BEGIN, ticket_is, answers}
use Rattle.model.specs.History.{Ticket, no_ticket}
use Rattle.model.specs.Model.{Limits, Model, update_at}
use Rattle.model.specs.Layout.{pages_used}
use Rattle.model.specs.OnModel.{begin_number, begun, on_model}
use Rattle.model.proofs.Area.Image.{or_blank, pages_image, nodes_image}
use Rattle.model.proofs.Model.Sound.{Sound}
use Rattle.model.proofs.Model.Passed.{BeginPassed, begin-passed}
use Rattle.model.proofs.Model.Facts.{ticket-past}
use Rattle.model.proofs.Lists.Nth.{length-snoc}
use Rattle.model.proofs.Area.LayoutLaws.{nodes-used-kept, number-new, pages-grow}
use Rattle.model.proofs.Lists.Slots.{none-there}
use Rattle.model.proofs.Calls.Kept.Begin.{new_ticket, begun-ticket, begun-new, begun-old, begun-grown, begun-used}
use Rattle.demands.specs.Answers.{begun_answer}
use Rattle.demands.specs.Run.{on_store}
use Rattle.demands.proofs.Image.{register_image, sources_image, lines_image, store_image, windows_image, areas_image, image}
use Rattle.demands.proofs.Masks.{mask-none}
use Rattle.demands.proofs.Records.{record-at}
use Rattle.demands.proofs.Puts.{register-put}
use Rattle.demands.proofs.Steps.Numbers.{alike_same, image-number}
use Rattle.demands.proofs.Steps.States.{leaves, state_of, state-same}
use Rattle.demands.proofs.Steps.Parts.{other_at, other-begins, new-begins, all_same, ticket_part, update_part, ticket-part, update-part, ticket-within}
use Rattle.demands.proofs.Steps.Grown.{number-begins, place-at-kept, nodes-grown}

module _ (L : Limits) (m : Model) (S : Sound L m) (n : ℕ) where
  -- A new ticket's pages are blank.
  begun-pages : pages_image L m ≡ pages_image L (begun L m n)
  begun-pages =
      pages-grow m (begun L m n) (begun-grown L m n S) L (length-snoc m.tickets (new_ticket L m n)) (λ t i o h l s. rw (begun-ticket L m n t h))
      (λ i. rw (begun-new L m n) (ap (or_blank L.size) (none-there n i)))

  -- The lines do not tell of tickets.
  begun-sources : sources_image m ≡ sources_image (begun L m n)
  unfolding sources_image
  begun-sources = refl

  begun_lines : lines_image m ≡ lines_image (begun L m n)
  unfolding lines_image
  begun_lines = refl

  begun-store : with_ticket (store_image L m) n ≡ store_image L (begun L m n)
  begun-store = rw (begun-used L m n S, length-snoc, nodes-used-kept m (begun L m n) (begun-grown L m n S) refl, begun-sources, begun_lines)

  begun-nodes : nodes_image L m ≡ nodes_image L (begun L m n)
  begun-nodes = nodes-grown L m (begun L m n) S (begun-grown L m n S) (begun-old L m n S) refl

  begun-update-part : (j : ℕ) → update_part m j ≡ update_part (begun L m n) j
  begun-update-part j =
      update-part m (begun L m n) j refl (begun-ticket L m n (update_at m (suc j)).ticket (ticket-within L m S (suc j))) (place-at-kept L m (begun L m n) S (begun-grown L m n S) refl j)

  begun-ticket-part : (j : ℕ) → j ≢ length m.tickets → ticket_part m j ≡ ticket_part (begun L m n) j
  begun-ticket-part j h =
      let k = new_ticket L m n in
      ticket-part m (begun L m n) j
      (ap (λ (x : Ticket). x.slots) (other_at no_ticket m.tickets k j h))
      (rw (length-snoc m.tickets k) (other-begins j (length m.tickets) _ _ h (λ l. number-begins L m (begun L m n) S (begun-grown L m n S) j l)))
      refl

  -- The new ticket's part: n pages from a page number on, none put, no update.
  begun-new-part : ticket_part (begun L m n) (length m.tickets) ≡ record { n = n; number = pages_used m; put = 0; update = 0 }
  begun-new-part =
      let t = length m.tickets in
      rw (
        length-snoc m.tickets (new_ticket L m n),
        begun-new L m n,
        length-replicate,
        mask-none,
        ticket-past L m S (suc t) (omega arith),
        new-begins,
        number-new m (begun L m n) (begun-grown L m n S) (length-snoc m.tickets (new_ticket L m n)),
      )

  begun-register : BeginPassed L m n
      → with_record (register_image L m) (length m.tickets) (with_ticket_part (get_or (register_image L m) (length m.tickets) no_record) n (pages_used m))
      ≡ register_image L (begun L m n)
  begun-register p =
      let t = length m.tickets in
      register-put L m (begun L m n) t _ p.record-left (λ j l h. all_same (begun-ticket-part j h) (begun-update-part j) refl)
      (rw (record-at L m t p.record-left) (all_same begun-new-part (sym (begun-update-part t)) refl))

  begun-image : BeginPassed L m n
      → state_of (with_ticket (store_image L m) n) (windows_image m) (pages_image L m) (nodes_image L m)
      (with_record (register_image L m) (length m.tickets) (with_ticket_part (get_or (register_image L m) (length m.tickets) no_record) n (pages_used m)))
      ≡ image L (begun L m n)
  begun-image p = state-same begun-store begun-pages begun-nodes (begun-register p)

  begin-number : begin_refusal (store_image L m) (lengths_of (areas_image L m)) n ≡ begin_number L m n
  unfolding begin_refusal
  begin-number =
      let rows = begin_rows n (length m.tickets) L.updates (pages_used m) L.pages in
      image-number L m S rows rows never (alike_same rows) (λ z. omega arith)

  begin-leaves : (k : ℕ) (r : List Record) → (k ≡ 0 → state_of (with_ticket (store_image L m) n) (windows_image m) (pages_image L m) (nodes_image L m) r ≡ image L (begun L m n))
      → leaves (state_of (unless k (store_image L m) (with_ticket (store_image L m) n)) (windows_image m) (pages_image L m) (nodes_image L m) (unless k (register_image L m) r))
      (begun_answer (begun_case k (suc (length m.tickets))))
      ≡ leaves (image L (unless k m (begun L m n))) (answers k (ticket_is (suc (length m.tickets))))
  unfolding unless
  begin-leaves zero r h = ap (λ x. leaves x (ticket_is (suc (length m.tickets)))) (h refl)
  begin-leaves (suc k) r h = refl

  pub begin-step : on_store (image L m) (BEGIN n) ≡ (image L (on_model L m (BEGIN n)).0, (on_model L m (BEGIN n)).1)
  unfolding on_store on_model
  begin-step = rw begin-number (begin-leaves (begin_number L m n) _ (λ z. begun-image (begin-passed L m n z)))
