-- What a line reads as after each call, from what it read as before.
-- Assumes nothing.
use mathlib.Core.Path.{◌≡◌, refl, ap, ap₂, ◌∙◌}
use mathlib.Core.Logic.{◌≢◌}
use mathlib.Core.List.{List, [], ◌∷◌, ◌++◌, map}
use Prim.Native.Nat.{ℕ, suc, ◌<◌}
use native.Mathlib.Omega.{arith}
use lib.ListN.{length, get_or, take}
use Rattle.model.specs.History.{Ticket, Version, History, history_of}
use Rattle.model.specs.Model.{Limits, Line, Model, line_at, update_at, history, every}
use Rattle.model.specs.OnModel.{next_version, begun, filled_at, woven, assigned, published, branched}
use Rattle.model.proofs.Model.Sound.{SoundGiven}
use Rattle.model.proofs.Lists.Nth.{map_snoc, map_same, map-take}
use Rattle.model.proofs.Calls.Kept.Publish.{published-this, published-other}
use Rattle.model.proofs.Calls.Kept.Assign.{assigned-older, assigned-new, assigned-this, assigned-other}
use Rattle.model.proofs.Calls.Kept.Branch.{branched-old, branched-new}

-- A history with other tickets, with one more version, with another number published, and its first v versions, all published.
abbrev pub with_tickets : History → List Ticket → History
with_tickets h ks = history_of ks h.versions h.published

abbrev pub with_version : History → Version → History
with_version h x = history_of h.tickets (h.versions ++ x ∷ []) h.published

abbrev pub up_to : History → ℕ → History
up_to h k = history_of h.tickets h.versions k

abbrev pub first_of : History → ℕ → History
first_of h v = history_of h.tickets (take v h.versions) v

-- What a line reads as, from the tickets, the updates and the line.
abbrev pub reads : List Ticket → (ℕ → Version) → Line → History
reads ks at x = history_of ks (map at x.shown) x.published

module _ (L : Limits) (m : Model) where
  -- ---- BEGIN, PUT and WEAVE change the tickets alone

  pub begun-history : (n l : ℕ) → history (begun L m n) l ≡ with_tickets (history m l) (begun L m n).tickets
  begun-history n l = refl

  pub filled-history : (t i : ℕ) (bytes : List ℕ) (l : ℕ) → history (filled_at L m t i bytes) l ≡ with_tickets (history m l) (filled_at L m t i bytes).tickets
  filled-history t i bytes l = refl

  pub woven-history : (t l : ℕ) → history (woven L m t) l ≡ with_tickets (history m l) (woven L m t).tickets
  woven-history t l = refl

  -- ---- PUBLISH changes the line's number alone, and no other line

  pub published-history : (l : ℕ) → l < length m.lines → history (published L m l) l ≡ up_to (history m l) (suc (line_at m l).published)
  published-history l there = ap (reads m.tickets (update_at m)) (published-this L m l there)

  pub published-apart : (l : ℕ) → l < length m.lines → (k : ℕ) → k ≢ l → history (published L m l) k ≡ history m k
  published-apart l there k n = ap (reads m.tickets (update_at m)) (published-other L m l there k n)

  -- ---- BRANCH adds a line that reads as the source's first versions, and changes no other line

  pub branched-history : (l v : ℕ) → history (branched L m l v) (length m.lines) ≡ first_of (history m l) v
  branched-history l v =
      ap (reads m.tickets (update_at m)) (branched-new L m l v)
      ∙ ap (λ (vs : List Version). history_of m.tickets vs v) (map-take (update_at m) v (line_at m l).shown)

  pub branched-apart : (l v k : ℕ) → k < length m.lines → history (branched L m l v) k ≡ history m k
  branched-apart l v k h = ap (reads m.tickets (update_at m)) (branched-old L m l v k h)

  -- ---- ASSIGN adds a version to its line, and to all updates, and changes no other line

  pub assigned-every : (l t f : ℕ) → every (assigned L m l t f) ≡ with_version (every m) (next_version L m l t f)
  assigned-every l t f = refl

  module _ {A : Type 0} (S : SoundGiven A L m) (l t f : ℕ) (there : l < length m.lines) where
    -- The updates that a line shows are as they were.
    assigned-map : (k : ℕ) → k < length m.lines → map (update_at (assigned L m l t f)) (line_at m k).shown ≡ map (update_at m) (line_at m k).shown
    assigned-map k h =
        map_same
        (update_at (assigned L m l t f))
        (update_at m)
        0
        (line_at m k).shown
        (λ i q. assigned-older L m l t f (get_or (line_at m k).shown i 0) ((S.lines k h).most (suc i) (omega arith) q))

    pub assigned-history : history (assigned L m l t f) l ≡ with_version (history m l) (next_version L m l t f)
    assigned-history =
        ap (reads m.tickets (update_at (assigned L m l t f))) (assigned-this L m l t f there)
        ∙ ap (λ (vs : List Version). history_of m.tickets vs (line_at m l).published)
        (map_snoc (update_at (assigned L m l t f)) (line_at m l).shown (suc (length m.updates))
        ∙ ap₂ (λ (vs : List Version) (x : Version). vs ++ x ∷ []) (assigned-map l there) (assigned-new L m l t f))

    pub assigned-apart : (k : ℕ) → k < length m.lines → k ≢ l → history (assigned L m l t f) k ≡ history m k
    assigned-apart k h n =
        ap (reads m.tickets (update_at (assigned L m l t f))) (assigned-other L m l t f there k n)
        ∙ ap (λ (vs : List Version). history_of m.tickets vs (line_at m k).published) (assigned-map k h)
