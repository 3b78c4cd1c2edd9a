-- What the calls keep of the model, whatever the limits are, and what it says of the tickets that a line shows.
-- Assumes nothing.
use mathlib.Core.Path.{◌≡◌, sym, ap, ◌∙◌}
use mathlib.Core.Logic.{◌⊎◌, inl, inr, ◌≢◌}
use Prim.Native.Nat.{ℕ, zero, suc, ◌≤◌, ◌<◌}
use native.Mathlib.Omega.{arith}
use lib.ListN.{length}
use Rattle.tree.proofs.Meets.{lt-or-le}
use Rattle.model.specs.History.{Version, no_version, version_at}
use Rattle.model.specs.Model.{Limits, Model, line_at, update_at, ticket_update, history}
use Rattle.model.specs.OnModel.{ticket_in}
use Rattle.model.proofs.Model.Sound.{SoundGiven}
use Rattle.model.proofs.Lists.Nth.{nth_past}
use Rattle.model.proofs.Model.Shown.{shown_at, Whole, versions-length, version-shown, complete-whole}
use Rattle.model.proofs.Model.Facts.{shown-sound}
use Rattle.model.proofs.Model.Passed.{WeavePassed}
use Rattle.isolation.specs.Isolation.{version_of}

abbrev pub Kept : Limits → Model → Type 0
Kept L m = SoundGiven Unit L m

-- Line l shows ticket t's update, as version v.
pub record Shows (m : Model) (l v t : ℕ) : Type 0 where
  pub from : 0 < v
  pub upto : v ≤ length (line_at m l).shown
  pub is : ticket_update m t ≡ shown_at m l v
  pub some : 0 < ticket_update m t

module _ {L : Limits} {m : Model} (S : Kept L m) (l : ℕ) (there : l < length m.lines) where
  -- The update of a ticket that the line shows.
  shows-ticket : (v t : ℕ) → 0 < t → (version_at (history m l) v).ticket ≡ t → Shows m l v t
  shows-ticket zero t o e = absurd (omega arith)
  shows-ticket (suc v) t o e = elim (lt-or-le v (length (line_at m l).shown)) [
    | inl h ↦
        let q : ticket_update m t ≡ shown_at m l (suc v) =
        ap (ticket_update m) (sym e ∙ ap (λ (x : Version). x.ticket) (version-shown m l (suc v))) ∙ (shown-sound L m S l there (suc v) (omega arith) h).back in
        record { from = omega arith; upto = h; is = q; some = rw q ((S.lines l there).some (suc v) (omega arith) h) }
    | inr h ↦ absurd (omega (arith, e, ap (λ (x : Version). x.ticket) (nth_past no_version (history m l).versions (suc v) (omega (arith, versions-length m l)))))
  ]

  -- It is the version of that number.
  pub shows-number : (v t : ℕ) → 0 < t → (version_at (history m l) v).ticket ≡ t → (update_at m (ticket_update m t)).number ≡ v
  shows-number v t o e =
      let s = shows-ticket v t o e in
      ap (λ (k : ℕ). (update_at m k).number) s.is ∙ (S.lines l there).number v s.from s.upto

  -- A version is the line's own, or it is whole.
  own-or-whole : (v : ℕ) → 0 < v → v ≤ length (line_at m l).shown → ((update_at m (shown_at m l v)).line ≡ l) ⊎ Whole m (shown_at m l v)
  own-or-whole v o h =
      let x = S.lines l there in
      elim (lt-or-le (line_at m l).start v) [ inl s ↦ inl (x.own v s h) | inr s ↦ inr (complete-whole m l v (x.woven v o (omega (arith, x.started)))) ]

  -- A version's ticket is there, also where there is no version.
  pub shown-upto : (v : ℕ) → (version_at (history m l) v).ticket ≤ length m.tickets
  shown-upto zero = omega arith
  shown-upto (suc v) = elim (lt-or-le v (length (line_at m l).shown)) [
    | inl h ↦ rw (version-shown m l (suc v)) (shown-sound L m S l there (suc v) (omega arith) h).upto
    | inr h ↦ omega (arith, ap (λ (x : Version). x.ticket) (nth_past no_version (history m l).versions (suc v) (omega (arith, versions-length m l))))
  ]

  -- A ticket that is not assigned is shown by no line.
  pub open-not-shown : (t : ℕ) → 0 < t → ticket_update m t ≡ 0 → (v : ℕ) → (version_at (history m l) v).ticket ≢ t
  open-not-shown t o z v e = omega (arith, (shows-ticket v t o e).some)

  -- A ticket with nodes left that is not assigned on the line: the line does not show it, since what it shares is complete.
  pub not-shown : (t : ℕ) → (version_of m t).line ≢ l → WeavePassed m t → (v : ℕ) → (version_at (history m l) v).ticket ≢ t
  not-shown t away p v e =
      let s = shows-ticket v t p.from e in
      let q : (version_of m t).ticket ≡ t = ap (λ k. (update_at m k).ticket) s.is ∙ sym (ap (λ (x : Version). x.ticket) (version-shown m l v)) ∙ e in
      elim (rw (← s.is) at (own-or-whole v s.from s.upto)) [ inl c ↦ away c | inr w ↦ omega (arith, p.left, w, ap (λ u. (ticket_in m u).woven) q) ]
