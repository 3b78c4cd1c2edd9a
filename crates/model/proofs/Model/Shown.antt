-- A line's versions as the updates that it shows.
-- Assumes nothing.
use mathlib.Core.Path.{◌≡◌, refl, ap, ◌∙◌}
use mathlib.Core.Bool.{true}
use Prim.Native.Nat.{ℕ, zero, suc}
use borrow.Author.Tests.{eqb-true, eq-eqb}
use lib.ListN.{length, length-map, get_or-map}
use Rattle.tree.specs.Tree.{count_of, nth, update, size_at}
use Rattle.model.specs.History.{Version, History, ticket_at, version_at, to_update, updates, blob_size, complete}
use Rattle.model.specs.Model.{Model, line_at, update_at, history, every}
use Rattle.model.specs.OnModel.{ticket_in}
use Rattle.model.proofs.History.Updates.{update-at, size-at}

-- The update that line l shows as its version v, or 0.
abbrev pub shown_at : Model → ℕ → ℕ → ℕ
shown_at m l v = nth 0 (line_at m l).shown v

-- As many nodes of update k are woven as it has.
abbrev pub Whole : Model → ℕ → Type 0
Whole m k = (ticket_in m (update_at m k).ticket).woven ≡ count_of (to_update m.tickets (update_at m k))

-- A complete version's ticket has as many nodes woven as the version has.
pub complete-count : (h : History) (v : ℕ) → complete h v ≡ true → (ticket_at h (version_at h v).ticket).woven ≡ count_of (update (updates h) v)
unfolding complete
complete-count h v e = eqb-true _ _ e

pub count-complete : (h : History) (v : ℕ) → (ticket_at h (version_at h v).ticket).woven ≡ count_of (update (updates h) v) → complete h v ≡ true
unfolding complete
count-complete h v e = eq-eqb _ _ e

module _ (m : Model) (l : ℕ) where
  pub versions-length : length (history m l).versions ≡ length (line_at m l).shown
  versions-length = length-map (line_at m l).shown (update_at m)

  -- Version v of a line is the update that it shows there, also where there is none.
  pub version-shown : (v : ℕ) → version_at (history m l) v ≡ update_at m (shown_at m l v)
  version-shown zero = refl
  version-shown (suc v) = get_or-map (update_at m) (line_at m l).shown v 0

  pub update-shown : (v : ℕ) → update (updates (history m l)) v ≡ to_update m.tickets (update_at m (shown_at m l v))
  update-shown v = update-at (history m l) v ∙ ap (to_update m.tickets) (version-shown v)

  pub size-shown : (v : ℕ) → size_at (updates (history m l)) v ≡ (update_at m (shown_at m l v)).size
  size-shown v = size-at (history m l) v ∙ rw (version-shown v)

  pub blob-shown : blob_size (history m l) ≡ (update_at m (shown_at m l (length (line_at m l).shown))).size
  blob-shown =
      ap (λ (x : Version). x.size) (version-shown (length (history m l).versions))
      ∙ ap (λ (v : ℕ). (update_at m (shown_at m l v)).size) versions-length

  pub complete-whole : (v : ℕ) → complete (history m l) v ≡ true → Whole m (shown_at m l v)
  complete-whole v e = rw (update-shown v, version-shown v) at (complete-count (history m l) v e)

  pub whole-complete : (v : ℕ) → Whole m (shown_at m l v) → complete (history m l) v ≡ true
  whole-complete v e = count-complete (history m l) v (rw (update-shown v, version-shown v) e)

-- Update k, in the order of all updates.
pub every-update : (m : Model) (k : ℕ) → update (updates (every m)) k ≡ to_update m.tickets (update_at m k)
every-update m k = update-at (every m) k
