-- The versions that a line had, in a model that grew: the same updates, and the same history up to them.
-- Assumes nothing.
use mathlib.Core.Path.{◌≡◌, refl, ap, sym, ◌∙◌}
use Prim.Native.Nat.{ℕ, zero, suc, ◌-◌, ◌≤◌, ◌<◌}
use native.Mathlib.Omega.{arith}
use lib.ListN.{length}
use Rattle.tree.specs.Tree.{update, size_at}
use Rattle.model.specs.History.{Version, version_at, to_update, updates}
use Rattle.model.specs.Model.{Limits, Model, line_at, update_at, history}
use Rattle.model.specs.Layout.{serial_of, leaf_serial}
use Rattle.model.specs.OnModel.{ticket_in}
use Rattle.model.proofs.Model.Sound.{SoundGiven}
use Rattle.model.proofs.Model.Shown.{shown_at, version-shown, update-shown, size-shown}
use Rattle.model.proofs.Calls.Grows.{Grown, update-grown}
use Rattle.model.proofs.Area.LayoutLaws.{serial-kept}
use Rattle.model.proofs.History.Stay.{SameUpTo}

-- The serial number of version v's page a, as its update has it.
pub leaf-shown : (m : Model) (l v a : ℕ)
    → leaf_serial (history m l) v a ≡ serial_of m.tickets (update_at m (shown_at m l v)).ticket (a - (update_at m (shown_at m l v)).f)
leaf-shown m l v a = ap (λ (x : Version). serial_of m.tickets x.ticket (a - x.f)) (version-shown m l v)

module _ {A : Type 0} (L : Limits) (m m' : Model) (S : SoundGiven A L m) (g : Grown m m') (l : ℕ) (there : l < length m.lines) where
  pub older : (v : ℕ) → v ≤ length (line_at m l).shown → shown_at m' l v ≡ shown_at m l v
  older v h = (g.line l there).shown v h

  pub older-most : (v : ℕ) → v ≤ length (line_at m l).shown → shown_at m l v ≤ length m.updates
  older-most zero h = omega arith
  older-most (suc v) h = (S.lines l there).most (suc v) (omega arith) h

  pub older-version : (v : ℕ) → v ≤ length (line_at m l).shown → update_at m' (shown_at m' l v) ≡ update_at m (shown_at m l v)
  older-version v h = rw (older v h) (g.version (shown_at m l v) (older-most v h))

  pub older-update : (v : ℕ) → v ≤ length (line_at m l).shown → update (updates (history m' l)) v ≡ update (updates (history m l)) v
  older-update v h =
      update-shown m' l v
      ∙ ap (λ (k : ℕ). to_update m'.tickets (update_at m' k)) (older v h)
      ∙ update-grown m m' g (shown_at m l v) (older-most v h)
      ∙ sym (update-shown m l v)

  pub older-size : (v : ℕ) → v ≤ length (line_at m l).shown → size_at (updates (history m' l)) v ≡ size_at (updates (history m l)) v
  older-size v h = size-shown m' l v ∙ ap (λ (u : Version). u.size) (older-version v h) ∙ sym (size-shown m l v)

  older-slots : (v : ℕ) → v ≤ length (line_at m l).shown
      → (ticket_in m' (update_at m (shown_at m l v)).ticket).slots ≡ (ticket_in m (update_at m (shown_at m l v)).ticket).slots
  older-slots zero h = refl
  older-slots (suc v) h = g.slots (shown_at m l (suc v)) ((S.lines l there).some (suc v) (omega arith) h) (older-most (suc v) h)

  older-leaf : (v a : ℕ) → 0 < v → v ≤ length (line_at m l).shown → leaf_serial (history m' l) v a ≡ leaf_serial (history m l) v a
  older-leaf v a o h =
      leaf-shown m' l v a
      ∙ ap (λ (x : Version). serial_of m'.tickets x.ticket (a - x.f)) (older-version v h)
      ∙ serial-kept m m' g (update_at m (shown_at m l v)).ticket (a - (update_at m (shown_at m l v)).f) (S.updated (shown_at m l v) ((S.lines l there).some v o h) (older-most v h)).upto
      ∙ sym (leaf-shown m l v a)

  pub older-same : SameUpTo (history m' l) (history m l) (length (line_at m l).shown)
  older-same = record {
    versions = versions;
    slots = λ v h. rw (versions v h, version-shown m l v) (older-slots v h);
    serials = older-leaf;
  }
    where
      versions : (v : ℕ) → v ≤ length (line_at m l).shown → version_at (history m' l) v ≡ version_at (history m l) v
      versions v h = version-shown m' l v ∙ older-version v h ∙ sym (version-shown m l v)
