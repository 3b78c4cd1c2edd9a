-- Lists of updates and the updates of a history: what is said of a version reads the updates up to it only.
-- Assumes nothing.
use mathlib.Core.Path.{◌≡◌, refl, ap, ap₂}
use mathlib.Core.Bool.{true, false}
use mathlib.Core.List.{List}
use Prim.Native.Nat.{ℕ, zero, suc, ◌≤◌}
use native.Mathlib.Omega.{arith}
use lib.ListN.{get_or-map}
use Rattle.tree.specs.Tree.{Update, meets, update, newest, size_at}
use Rattle.tree.specs.Walk.{Accepted}
use Rattle.model.specs.History.{History, no_version, version_at, to_update, updates}

-- ---- two lists of updates, the same up to version k

module _ (us ws : List Update) (k : ℕ) (same : (v : ℕ) → v ≤ k → update us v ≡ update ws v) where
  pub newest-same : (v : ℕ) → v ≤ k → (a s : ℕ) → newest us v a s ≡ newest ws v a s
  unfolding newest
  newest-same zero p a s = refl
  newest-same (suc v) p a s =
      ap₂ (λ (u : Update) (n : ℕ). elim (meets u.f u.last a s) as (λ b. ℕ) [ true ↦ suc v | false ↦ n ])
      (same (suc v) p) (newest-same v (omega arith) a s)

-- An update is accepted by itself and the size before it.
pub accepted-same : (us ws : List Update) (v : ℕ) → update ws (suc v) ≡ update us (suc v) → size_at ws v ≡ size_at us v → Accepted us v → Accepted ws v
accepted-same us ws v e s a = record { some-pages = rw e a.some-pages; starts = rw (e, s) a.starts; grows = rw (e, s) a.grows }

-- ---- the updates of a history, by its versions

module _ (m : History) where
  -- The update of a version, also where there is none.
  pub update-at : (v : ℕ) → update (updates m) v ≡ to_update m.tickets (version_at m v)
  unfolding update
  update-at zero = refl
  update-at (suc v) = get_or-map (to_update m.tickets) m.versions v no_version

  pub f-at : (v : ℕ) → (update (updates m) v).f ≡ (version_at m v).f
  f-at v = ap (λ (u : Update). u.f) (update-at v)

  pub size-at : (v : ℕ) → size_at (updates m) v ≡ (version_at m v).size
  unfolding size_at
  size-at v = ap (λ (u : Update). u.size) (update-at v)
