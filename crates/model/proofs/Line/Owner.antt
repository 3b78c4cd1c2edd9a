-- An update as the line on which it got its number has it, and that line of a version that another line shows.
-- Assumes nothing.
use mathlib.Core.Path.{◌≡◌, ap, sym, ◌∙◌}
use mathlib.Core.Logic.{inl, inr}
use Prim.Native.Nat.{ℕ, zero, suc, ◌≤◌, ◌<◌}
use native.Mathlib.Omega.{arith}
use lib.ListN.{length}
use Rattle.tree.specs.Tree.{update}
use Rattle.tree.proofs.Meets.{lt-or-le}
use Rattle.table.proofs.Table.{number-cases}
use Rattle.model.specs.History.{version_at, to_update, updates}
use Rattle.model.specs.Model.{Limits, Model, line_at, update_at, history, numbered, number_in}
use Rattle.model.proofs.Model.Sound.{SoundGiven}
use Rattle.model.proofs.Model.Shown.{shown_at, version-shown, update-shown}
use Rattle.model.proofs.Model.Facts.{shown-sound}

-- The line on which version v of line l got its number.
abbrev pub owner_of : Model → ℕ → ℕ → ℕ
owner_of m l v = (update_at m (shown_at m l v)).line

module _ {A : Type 0} (L : Limits) (m : Model) (S : SoundGiven A L m) where
  -- ---- update k

  module _ (k : ℕ) (o : 0 < k) (h : k ≤ length m.updates) where
    pub own-version : version_at (history m (update_at m k).line) (update_at m k).number ≡ update_at m k
    own-version = version-shown m (update_at m k).line (update_at m k).number ∙ ap (update_at m) (S.updated k o h).shown

    pub own-update : update (updates (history m (update_at m k).line)) (update_at m k).number ≡ to_update m.tickets (update_at m k)
    own-update = update-shown m (update_at m k).line (update_at m k).number ∙ ap (λ (j : ℕ). to_update m.tickets (update_at m j)) (S.updated k o h).shown

  -- ---- version v of line l, one of its own or a shared one

  -- A shared version is one of the source's, which comes before the line.
  pub source-there : (l : ℕ) → 0 < l → l < length m.lines → (line_at m l).source < length m.lines
  source-there l o there = omega (arith, (S.lines l there).source o)

  pub source-has : (l v : ℕ) → 0 < l → l < length m.lines → v ≤ (line_at m l).start → v ≤ length (line_at m (line_at m l).source).shown
  source-has l v o there h = omega (arith, (S.lines l there).sourced o, (S.lines (line_at m l).source (source-there l o there)).published)

  module _ (l v : ℕ) (there : l < length m.lines) (o : 0 < v) (h : v ≤ length (line_at m l).shown) where
    pub owner-there : owner_of m l v < length m.lines
    owner-there = (shown-sound L m S l there v o h).line

    -- That line shows it by the same number, as its own.
    pub owner-starts : (line_at m (owner_of m l v)).start < v
    owner-starts = omega (arith, (shown-sound L m S l there v o h).own, (S.lines l there).number v o h)

    pub owner_shows : shown_at m (owner_of m l v) v ≡ shown_at m l v
    owner_shows = ap (shown_at m (owner_of m l v)) (sym ((S.lines l there).number v o h)) ∙ (shown-sound L m S l there v o h).shown

    -- So it has one number in the node area, whichever line reads it.
    pub owner-number : number_in (history m l) v ≡ numbered (owner_of m l v) v
    owner-number = rw (version-shown m l v)

    pub owner-own : (line_at m l).start < v → owner_of m l v ≡ l
    owner-own s = (S.lines l there).own v s h

    pub owner-shared : 0 < l → v ≤ (line_at m l).start → owner_of m l v ≡ owner_of m (line_at m l).source v
    owner-shared p s = ap (λ (k : ℕ). (update_at m k).line) ((S.lines l there).shared v p o s)

  -- It is the line itself, or one that it comes from.
  pub owner-below : (l v : ℕ) → l < length m.lines → 0 < v → v ≤ length (line_at m l).shown → owner_of m l v ≤ l
  owner-below l v there o h = elim (lt-or-le (line_at m l).start v) [
    | inl s ↦ omega (arith, owner-own l v there o h s)
    | inr s ↦ up l l (omega arith) there s
  ]
    where
      -- A shared version is not of line 0.
      above : (l : ℕ) → l < length m.lines → v ≤ (line_at m l).start → 0 < l
      above l there s = elim (number-cases l) [ inl z ↦ absurd (omega (arith, (S.lines l there).first z)) | inr p ↦ p ]

      up : (n l : ℕ) → l ≤ n → l < length m.lines → v ≤ (line_at m l).start → owner_of m l v ≤ l
      up zero l q there s = absurd (omega (arith, above l there s))
      up (suc n) l q there s =
          let p = above l there s in
          let w : v ≤ length (line_at m l).shown = omega (arith, (S.lines l there).started, (S.lines l there).published) in
          let c = (S.lines l there).source p in
          let t = source-there l p there in
          let x = source-has l v p there s in
          let e = owner-shared l v there o w p s in
          elim (lt-or-le (line_at m (line_at m l).source).start v) [
            | inl r ↦ omega (arith, owner-own (line_at m l).source v t o x r)
            | inr r ↦ omega (arith, up n (line_at m l).source (omega arith) t r)
          ]
