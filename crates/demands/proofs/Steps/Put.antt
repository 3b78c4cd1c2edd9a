-- PUT on the image of a sound model is the model's.
-- Assumes nothing.
use Rattle.std.proofs.Common.{None}
use mathlib.Core.Path.{◌≡◌, refl, ap, sym}
use mathlib.Core.Logic.{inl, inr, ◌≢◌}
use mathlib.Core.Bool.{true}
use mathlib.Core.List.{List}
use Prim.Native.Nat.{ℕ, zero, suc, pred, ◌+◌, ◌*◌, ◌≤◌, ◌<◌}
use native.Mathlib.Nat.{suc_inj}
use native.Mathlib.Omega.{arith}
use lib.ListN.{length, get_or}
use Rattle.pages.specs.Pages.{put}
use Rattle.tree.proofs.Meets.{lt-or-le}
use Rattle.register.specs.Register.{with_record}
use Rattle.register.specs.declared.Record.{Record}
use Rattle.table.specs.Table.{◌<?◌, ◌≤?◌, ◌or◌, always, put_rows, unless}
use Rattle.versions.specs.Store.{lengths_of, record_of}
use Rattle.put.specs.Put.{ticket_page, bit_of, put_refusal, with_put, with_bit}
use Rattle.model.specs.Calls.{PUT, put_done, answers}
use Rattle.model.specs.History.{Version, no_version, pages_of, is_filled, bit_if}
use Rattle.model.specs.Model.{Limits, Model, update_at, ticket_update}
use Rattle.model.specs.Layout.{serial_of, slot_stands}
use Rattle.model.specs.OnModel.{ticket_in, put_number, filled_at, on_model}
use Rattle.model.proofs.Area.Image.{pages_image, nodes_image}
use Rattle.model.proofs.Model.Sound.{Sound}
use Rattle.model.proofs.Model.Passed.{PutPassed, put-passed}
use Rattle.model.proofs.Area.LayoutLaws.{page-open, page-room}
use Rattle.model.proofs.Lists.Nth.{nth_past}
use Rattle.model.proofs.Calls.Kept.Change.{changed-other}
use Rattle.model.proofs.Calls.Kept.Put.{filled_ticket, filled-pages, put-apart, filled-this, filled-grown}
use Rattle.demands.specs.Answers.{put_answer}
use Rattle.demands.specs.Run.{on_store}
use Rattle.demands.proofs.Image.{mask_of, number_at, register_image, store_image, windows_image, areas_image, image}
use Rattle.demands.proofs.Masks.{mask-bit, mask-put}
use Rattle.demands.proofs.Records.{record-at, slot-number}
use Rattle.demands.proofs.Puts.{pages-put, register-put}
use Rattle.demands.proofs.Steps.Numbers.{PutReads, put-alike, image-number}
use Rattle.demands.proofs.Steps.States.{leaves, state_of, state-same}
use Rattle.demands.proofs.Steps.Parts.{all_same, ticket_part, update_part}
use Rattle.demands.proofs.Steps.Changed.{changed-store, changed-number, changed-ticket-part, changed-update-part}
use Rattle.demands.proofs.Steps.Grown.{nodes-grown}
use Rattle.table.specs.Refused.{answered}

module _ (L : Limits) (m : Model) (S : Sound L m) (i : ℕ) (bytes : List ℕ) where
  -- ---- the number

  put_reads : (t : ℕ) → 0 < t → t ≤ length m.tickets
      → let r = record_of (areas_image L m) t in
      PutReads t L.updates r.update (ticket_update m t) r.n (pages_of (ticket_in m t)) (bit_of r.put i) (bit_if (is_filled (get_or (ticket_in m t).slots i None)))
  put_reads zero o h = absurd (omega arith)
  put_reads (suc t) o h =
      let e = record-at L m t (omega (arith, S.records)) in
      record { there = omega (arith, S.records); version = rw e; pages = rw e; bit = rw e (mask-bit (ticket_in m (suc t)).slots i) }

  put-number : (t : ℕ) → put_refusal (store_image L m) (lengths_of (areas_image L m)) (record_of (areas_image L m) t) t i (length bytes) ≡ put_number L m t i bytes
  unfolding put_refusal
  put-number t =
      let r = record_of (areas_image L m) t in
      image-number
      L
      m
      S
      (put_rows (t ≤? L.updates) t (length m.tickets) r.update r.n i (bit_of r.put i) (length bytes) L.size)
      (put_rows always t (length m.tickets) (ticket_update m t) (pages_of (ticket_in m t)) i (bit_if (is_filled (get_or (ticket_in m t).slots i None))) (length bytes) L.size)
      (L.updates <? t or L.pages ≤? r.number + i)
      (put-alike _ _ _ _ _ _ _ _ _ _ _ _ (put_reads t))
      (λ z.
      let p = put-passed L m t i bytes z in
      let lies : (j : ℕ) → j ≤ i → slot_stands m t j ≡ true = λ j h. page-open m t j p.from p.upto (omega (arith, p.slot)) p.unassigned in
      (omega (arith, p.upto, S.records), omega (arith, slot-number L m S t i p.from p.upto (λ j h. lies j (omega arith)), page-room L m S (serial_of m.tickets t i) (lies i (omega arith)))))

  -- ---- what it leaves

  module _ (t : ℕ) (p : PutPassed L m (suc t) i bytes) where
    -- No update, and no index past the last, has the ticket.
    apart : (v : ℕ) → (update_at m v).ticket ≢ suc t
    apart zero e = omega arith
    apart (suc v) e = elim (lt-or-le (length m.updates) (suc v)) [
      | inl l ↦ let z = ap (λ (x : Version). x.ticket) (nth_past no_version m.updates (suc v) l) in omega arith
      | inr l ↦ put-apart L m (suc t) i bytes S p (suc v) (omega arith) l e
    ]

    put-pages : put (pages_image L m) (L.size * ticket_page (areas_image L m) (suc t) i) bytes ≡ pages_image L (filled_at L m (suc t) i bytes)
    put-pages = rw (slot-number L m S (suc t) i p.from p.upto (λ j h. page-open m (suc t) j p.from p.upto (omega (arith, p.slot)) p.unassigned)) (pages-put L m S (suc t) i bytes p)

    put-nodes : nodes_image L m ≡ nodes_image L (filled_at L m (suc t) i bytes)
    put-nodes =
        nodes-grown L m (filled_at L m (suc t) i bytes) S (filled-grown L m (suc t) i bytes S p)
        (λ k o h. changed-other m (suc t) (filled_ticket L m (suc t) i bytes) p.from (filled-pages L m (suc t) i bytes) (update_at m k).ticket (apart k)) refl

    -- The ticket's part, with bit i set.
    put-part : ticket_part (filled_at L m (suc t) i bytes) t
        ≡ record { n = pages_of (ticket_in m (suc t)); number = number_at m t; put = with_bit (mask_of (ticket_in m (suc t)).slots) i; update = ticket_update m (suc t) }
    put-part =
        let s = filled-pages L m (suc t) i bytes in
        rw (
          changed-number L m S (suc t) (filled_ticket L m (suc t) i bytes) p.from s (filled-grown L m (suc t) i bytes S p) t,
          filled-this L m (suc t) i bytes S p,
          s,
          mask-put (ticket_in m (suc t)).slots i bytes (S.tickets (suc t) p.from p.upto).few p.slot p.empty,
        )

    put-register : with_record (register_image L m) t (with_put (record_of (areas_image L m) (suc t)) i) ≡ register_image L (filled_at L m (suc t) i bytes)
    put-register =
        let k = filled_ticket L m (suc t) i bytes in
        let s = filled-pages L m (suc t) i bytes in
        let h : t < L.updates = omega (arith, p.upto, S.records) in
        let g = filled-grown L m (suc t) i bytes S p in
        let updated : (j : ℕ) → update_part m j ≡ update_part (filled_at L m (suc t) i bytes) j = λ j. changed-update-part L m S (suc t) k p.from s g j (apart (suc j)) in
        register-put L m (filled_at L m (suc t) i bytes) t _ h
        (λ j l n. all_same (changed-ticket-part L m S (suc t) k p.from s g j (λ e. n (suc_inj e))) (updated j) refl)
        (rw (record-at L m t h) (all_same put-part (sym (updated t)) refl))

  put-image : (t : ℕ) → PutPassed L m t i bytes
      → state_of (store_image L m) (windows_image m) (put (pages_image L m) (L.size * ticket_page (areas_image L m) t i) bytes) (nodes_image L m)
      (with_record (register_image L m) (pred t) (with_put (record_of (areas_image L m) t) i))
      ≡ image L (filled_at L m t i bytes)
  put-image zero p = absurd (omega (arith, p.from))
  put-image (suc t) p =
      state-same
      (changed-store L m S (suc t) (filled_ticket L m (suc t) i bytes) p.from (filled-pages L m (suc t) i bytes) (filled-grown L m (suc t) i bytes S p))
      (put-pages t p)
      (put-nodes t p)
      (put-register t p)

  put-leaves : (t k : ℕ) (x : List ℕ) (r : List Record) → (k ≡ 0 → state_of (store_image L m) (windows_image m) x (nodes_image L m) r ≡ image L (filled_at L m t i bytes))
      → leaves (state_of (store_image L m) (windows_image m) (unless k (pages_image L m) x) (nodes_image L m) (unless k (register_image L m) r)) (put_answer (answered k tt))
      ≡ leaves (image L (unless k m (filled_at L m t i bytes))) (answers k put_done)
  unfolding unless
  put-leaves t zero x r h = ap (λ y. leaves y put_done) (h refl)
  put-leaves t (suc k) x r h = refl

pub put_step : (L : Limits) (m : Model) → Sound L m → (t i : ℕ) (bytes : List ℕ)
    → on_store (image L m) (PUT t i bytes) ≡ (image L (on_model L m (PUT t i bytes)).0, (on_model L m (PUT t i bytes)).1)
unfolding on_store on_model
put_step L m S t i bytes =
    rw (put-number L m S i bytes t) (put-leaves L m S i bytes t (put_number L m t i bytes) _ _ (λ z. put-image L m S i bytes t (put-passed L m t i bytes z)))
