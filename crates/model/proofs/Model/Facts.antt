-- What follows of a sound model: of its tickets' updates, of its updates' pages, and of how many versions a line has.
-- Assumes nothing.
use mathlib.Core.Path.{◌≡◌, ap, sym, ◌∙◌}
use Prim.Native.Nat.{ℕ, zero, suc, pred, ◌+◌, ◌≤◌, ◌<◌}
use native.Mathlib.Omega.{arith}
use lib.ListN.{length}
use Rattle.model.specs.History.{pages_of, to_update}
use Rattle.model.specs.Model.{Limits, Model, line_at, update_at, ticket_update}
use Rattle.model.specs.OnModel.{ticket_in}
use Rattle.model.proofs.Model.Sound.{SoundGiven, Sound, UpdateSound}
use Rattle.model.proofs.Lists.Pigeons.{pigeons}
use Rattle.model.proofs.Model.Updated.{update-past, update-le}
use Rattle.model.proofs.Model.Shown.{shown_at}

module _ {A : Type 0} (L : Limits) (m : Model) (S : SoundGiven A L m) where
  -- There is no ticket 0, and none past the last: they have no update.
  pub ticket-zero : ticket_update m 0 ≡ 0
  ticket-zero = update-past m 0 (λ k o h e. omega (arith, (S.updated k o h).from))

  pub ticket-past : (t : ℕ) → length m.tickets < t → ticket_update m t ≡ 0
  ticket-past t g = update-past m t (λ k o h e. omega (arith, (S.updated k o h).upto))

  -- The update that a ticket got is sound.
  pub update-got : (t : ℕ) → 0 < ticket_update m t → UpdateSound m (ticket_update m t)
  update-got t o = S.updated (ticket_update m t) o (update-le m t)

  -- An update's pages are those of its ticket, from f on.
  pub pages-end : (k : ℕ) → 0 < k → k ≤ length m.updates
      → suc (to_update m.tickets (update_at m k)).last ≡ (update_at m k).f + pages_of (ticket_in m (update_at m k).ticket)
  pages-end k o h =
      let s = S.updated k o h in
      omega (arith, (S.tickets (update_at m k).ticket s.from s.upto).some-pages)

  module _ (l : ℕ) (there : l < length m.lines) where
    -- A version is a sound update.
    pub shown-sound : (v : ℕ) → 0 < v → v ≤ length (line_at m l).shown → UpdateSound m (shown_at m l v)
    shown-sound v o h = S.updated (shown_at m l v) ((S.lines l there).some v o h) ((S.lines l there).most v o h)

    -- Different versions of a line are different updates.
    pub shown-apart : (v w : ℕ) → 0 < v → v ≤ length (line_at m l).shown → 0 < w → w ≤ length (line_at m l).shown → shown_at m l v ≡ shown_at m l w → v ≡ w
    shown-apart v w o h p q e = sym ((S.lines l there).number v o h) ∙ ap (λ (k : ℕ). (update_at m k).number) e ∙ (S.lines l there).number w p q

    -- A line has no more versions than there are updates.
    pub versions-few : length (line_at m l).shown ≤ length m.updates
    versions-few =
        pigeons
        (length (line_at m l).shown)
        (length m.updates)
        (λ i. pred (shown_at m l (suc i)))
        (λ i j hi hj e.
        let a = (S.lines l there).some (suc i) (omega arith) hi in
        let b = (S.lines l there).some (suc j) (omega arith) hj in
        omega (arith, shown-apart (suc i) (suc j) (omega arith) hi (omega arith) hj (omega arith)))
        (λ i h. omega (arith, (S.lines l there).some (suc i) (omega arith) h, (S.lines l there).most (suc i) (omega arith) h))

    -- No version has more than 4096 pages; version 0 has none.
    pub shown-small : (v : ℕ) → v ≤ length (line_at m l).shown → (update_at m (shown_at m l v)).size ≤ 4096
    shown-small zero h = omega arith
    shown-small (suc v) h = (shown-sound (suc v) (omega arith) h).upward

-- So no more than the capacity.
pub versions-most : (L : Limits) (m : Model) → Sound L m → (l : ℕ) → l < length m.lines → length (line_at m l).shown ≤ 4096
versions-most L m S l there = omega (arith, versions-few L m S l there, S.fewer, S.records, S.allowed.updates)
