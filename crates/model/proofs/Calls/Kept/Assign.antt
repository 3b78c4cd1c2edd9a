-- ASSIGN keeps the model sound: one more update, with its nodes yet to weave, which its line shows as its next version.
-- Assumes nothing.
use mathlib.Core.Path.{◌≡◌, refl, ap, sym, ◌∙◌}
use mathlib.Core.Logic.{inl, inr}
use mathlib.Core.List.{[], ◌∷◌, ◌++◌}
use Prim.Native.Nat.{ℕ, suc, pred, ◌+◌, ◌≤◌, ◌<◌}
use native.Mathlib.Decide.{ℕ_discrete}
use native.Mathlib.Omega.{arith}
use lib.ListN.{length, length-set}
use Rattle.tree.proofs.Meets.{lt-or-le}
use Rattle.tree.specs.Tree.{count_of, update, size_at}
use Rattle.tree.specs.Walk.{Accepted}
use Rattle.table.proofs.Table.{number-cases}
use Rattle.model.specs.History.{Version, no_version, to_update, updates, blob_size}
use Rattle.model.specs.Model.{Limits, Line, Model, line_at, update_at, history, ticket_update, with_shown}
use Rattle.model.specs.Layout.{nodes_used}
use Rattle.model.specs.OnModel.{next_version, next_update, assign_number, assigned}
use Rattle.model.proofs.Model.Sound.{SoundGiven, TicketSound, UpdateSound, LineSound}
use Rattle.model.proofs.Model.Facts.{shown-small}
use Rattle.model.proofs.Model.Passed.{AssignPassed, assign-passed}
use Rattle.model.proofs.Lists.Nth.{length-snoc, nth-append, nth-new}
use Rattle.model.proofs.Model.Updated.{update-had, update-gets}
use Rattle.model.proofs.Lists.Pigeons.{pigeons}
use Rattle.model.proofs.Model.Shown.{shown_at, update-shown, size-shown, blob-shown}
use Rattle.model.proofs.Calls.Grows.{LineGrown, Grown}
use Rattle.model.proofs.Area.LayoutLaws.{stands-unpublished, nodes-used-more, pages-used-kept}
use Rattle.model.proofs.Calls.Lines.{line-this, line_other, line_set}
use Rattle.model.proofs.Calls.Kept.Same.{NewVersion, ticket-same, update-kept, line_kept, line_same}

-- Updates whose tickets are different ones of those given are no more than these.
pub fewer-updates : (m : Model) → ((k : ℕ) → 0 < k → k ≤ length m.updates → UpdateSound m k) → length m.updates ≤ length m.tickets
fewer-updates m s =
    pigeons
    (length m.updates)
    (length m.tickets)
    (λ i. pred (update_at m (suc i)).ticket)
    (λ i j hi hj e.
    let a = s (suc i) (omega arith) (omega arith) in
    let b = s (suc j) (omega arith) (omega arith) in
    let same : (update_at m (suc i)).ticket ≡ (update_at m (suc j)).ticket = omega (arith, a.from, b.from) in
    omega (arith, rw same at a.back, b.back))
    (λ i h. let a = s (suc i) (omega arith) (omega arith) in omega (arith, a.from, a.upto))

module _ (L : Limits) (m : Model) (l t f : ℕ) where
  -- ---- the updates

  pub assigned-length : length (assigned L m l t f).updates ≡ suc (length m.updates)
  assigned-length = length-snoc m.updates (next_version L m l t f)

  pub assigned-older : (k : ℕ) → k ≤ length m.updates → update_at (assigned L m l t f) k ≡ update_at m k
  assigned-older k h = nth-append no_version m.updates (next_version L m l t f ∷ []) k h

  pub assigned-new : update_at (assigned L m l t f) (suc (length m.updates)) ≡ next_version L m l t f
  assigned-new = nth-new no_version m.updates (next_version L m l t f)

  pub assigned-had : (u : ℕ) → 0 < ticket_update m u → ticket_update (assigned L m l t f) u ≡ ticket_update m u
  assigned-had u h = update-had 1 m.updates (next_version L m l t f) u h

  pub assigned-gets : ticket_update m t ≡ 0 → ticket_update (assigned L m l t f) t ≡ suc (length m.updates)
  assigned-gets z = omega (arith, update-gets 1 m.updates (next_version L m l t f) (omega arith) z)

  -- ---- the line

  abbrev pub assigned_line : Line
  assigned_line =
      let x = line_at m l in
      with_shown x (x.shown ++ suc (length m.updates) ∷ [])

  pub assigned-lines : length (assigned L m l t f).lines ≡ length m.lines
  assigned-lines = length-set m.lines l assigned_line

  pub assigned-line : LineGrown (line_at m l) assigned_line
  assigned-line = record {
    source = refl;
    start = refl;
    longer = omega (arith, length-snoc (line_at m l).shown (suc (length m.updates)));
    shown = λ v h. nth-append 0 (line_at m l).shown (suc (length m.updates) ∷ []) v h;
    further = omega arith;
  }

  module _ (there : l < length m.lines) where
    pub assigned-this : line_at (assigned L m l t f) l ≡ assigned_line
    assigned-this = line-this m.lines l assigned_line there

    pub assigned-other : (k : ℕ) → (k ≡ l → ⊥) → line_at (assigned L m l t f) k ≡ line_at m k
    assigned-other k n = line_other m.lines l assigned_line there k n

    pub assigned-versions : length (line_at (assigned L m l t f) l).shown ≡ suc (length (line_at m l).shown)
    assigned-versions = rw assigned-this (length-snoc (line_at m l).shown (suc (length m.updates)))

    -- The line shows what it did, and the new update next.
    pub assigned-shown : (v : ℕ) → v ≤ length (line_at m l).shown → shown_at (assigned L m l t f) l v ≡ shown_at m l v
    assigned-shown v h = rw assigned-this (nth-append 0 (line_at m l).shown (suc (length m.updates) ∷ []) v h)

    pub assigned-next : shown_at (assigned L m l t f) l (suc (length (line_at m l).shown)) ≡ suc (length m.updates)
    assigned-next = rw assigned-this (nth-new 0 (line_at m l).shown (suc (length m.updates)))

    pub assigned-grown : Grown m (assigned L m l t f)
    assigned-grown = record {
      tickets = omega arith;
      updates = omega (arith, assigned-length);
      lines = omega (arith, assigned-lines);
      version = assigned-older;
      got = assigned-had;
      slots = λ k o h. refl;
      pages = λ t h. refl;
      whole = λ k o h w. refl;
      line = λ k h. line_set m.lines l assigned_line there assigned-line k;
    }

    -- It uses the places of its update's nodes more.
    pub assigned-used : (line_at m l).published ≤ length (line_at m l).shown → nodes_used (assigned L m l t f) ≡ nodes_used m + count_of (next_update L m l t f)
    assigned-used few =
        let m' = assigned L m l t f in
        let late : (line_at m' (update_at m' (suc (length m.updates))).line).published < (update_at m' (suc (length m.updates))).number =
        rw (assigned-new, assigned-this) (omega (arith, few)) in
        nodes-used-more m m' assigned-grown assigned-length (λ i h. stands-unpublished m' (suc (length m.updates)) i late h) ∙ rw assigned-new

    pub assigned-next-version : update_at (assigned L m l t f) (shown_at (assigned L m l t f) l (suc (length (line_at m l).shown))) ≡ next_version L m l t f
    assigned-next-version = rw assigned-next assigned-new

    pub assigned-next-update : update (updates (history (assigned L m l t f) l)) (suc (length (line_at m l).shown)) ≡ next_update L m l t f
    assigned-next-update = update-shown (assigned L m l t f) l (suc (length (line_at m l).shown)) ∙ ap (to_update m.tickets) assigned-next-version

  module _ {A : Type 0} (S : SoundGiven A L m) where
    module _ (p : AssignPassed L m l t f) where
      x : LineSound m l
      x = S.lines l p.line

      assigned-tickets : (u : ℕ) → 0 < u → u ≤ length m.tickets → TicketSound L (assigned L m l t f) u
      assigned-tickets u o h =
          ticket-same
          L
          m
          (assigned L m l t f)
          u
          refl
          (λ z. elim (number-cases (ticket_update m u)) [ inl e ↦ e | inr g ↦ absurd (omega (arith, assigned-had u g)) ])
          (S.tickets u o h)

      new-update : UpdateSound (assigned L m l t f) (suc (length m.updates))
      new-update =
          let k = S.tickets t p.from p.upto in
          record {
            from = rw assigned-new p.from;
            upto = rw assigned-new p.upto;
            back = rw assigned-new (assigned-gets p.unassigned);
            puts = rw assigned-new p.puts;
            woven = rw (assigned-new, k.unwoven p.unassigned) (omega arith);
            inside = rw assigned-new (omega (arith, p.inside, k.some-pages));
            upward = rw assigned-new (omega (arith, p.inside, blob-shown m l, shown-small L m S l p.line (length (line_at m l).shown) (omega arith)));
            line = rw (assigned-new, assigned-lines) p.line;
            own = rw (assigned-new, assigned-this p.line) (omega (arith, x.started, x.published));
            shown = rw assigned-new (assigned-next p.line);
          }

      assigned-updated : (k : ℕ) → 0 < k → k ≤ length (assigned L m l t f).updates → UpdateSound (assigned L m l t f) k
      assigned-updated k o h = elim (lt-or-le (length m.updates) k) [
        | inl q ↦ let e : k ≡ suc (length m.updates) = omega (arith, assigned-length) in rw e new-update
        | inr q ↦ update-kept L m (assigned L m l t f) S (assigned-grown p.line) k o q (S.updated k o q).woven
      ]

      -- The update is an accepted one of the line's last version.
      new-accepted : Accepted (updates (history (assigned L m l t f) l)) (length (line_at m l).shown)
      new-accepted =
          let k = S.tickets t p.from p.upto in
          let n = length (line_at m l).shown in
          let e = assigned-next-update p.line in
          let s : size_at (updates (history (assigned L m l t f) l)) n ≡ blob_size (history m l) = last-size in
          record {
            some-pages = rw e (omega (arith, k.some-pages));
            starts = rw (e, s) p.starts;
            grows = rw (e, s) (omega (arith, k.some-pages));
          }
        where
          last-most : (v : ℕ) → v ≤ length (line_at m l).shown → shown_at m l v ≤ length m.updates
          last-most v h = elim (number-cases v) [ inl e ↦ rw e (omega arith) | inr o ↦ x.most v o h ]

          last-size : size_at (updates (history (assigned L m l t f) l)) (length (line_at m l).shown) ≡ blob_size (history m l)
          last-size =
              let n = length (line_at m l).shown in
              size-shown (assigned L m l t f) l n
              ∙ ap (λ (k : ℕ). (update_at (assigned L m l t f) k).size) (assigned-shown p.line n (omega arith))
              ∙ ap (λ (u : Version). u.size) (assigned-older (shown_at m l n) (last-most n (omega arith)))
              ∙ sym (blob-shown m l)

      new-version : (v : ℕ) → length (line_at m l).shown ≤ v → v < length (line_at (assigned L m l t f) l).shown → NewVersion (assigned L m l t f) l v
      new-version v a b =
          let e : v ≡ length (line_at m l).shown = omega (arith, assigned-versions p.line) in
          let n = assigned-next p.line in
          rw e (record {
            some = omega (arith, n);
            most = omega (arith, n, assigned-length);
            number = ap (λ (u : Version). u.number) (assigned-next-version p.line);
            own = ap (λ (u : Version). u.line) (assigned-next-version p.line);
            accepted = new-accepted;
          })

      assigned-lines-sound : (k : ℕ) → k < length m.lines → LineSound (assigned L m l t f) k
      assigned-lines-sound k h = elim (ℕ_discrete k l) [
        | yes e ↦
            let q : (line_at (assigned L m l t f) l).published ≡ (line_at m l).published = rw (assigned-this p.line) in
            let room : (line_at (assigned L m l t f) l).published ≤ length (line_at (assigned L m l t f) l).shown =
            omega (arith, assigned-versions p.line, x.published) in
            rw e (line_kept L m (assigned L m l t f) S (assigned-grown p.line) l p.line new-version room (λ v a b. absurd (omega arith)))
        | no n ↦ line_same L m (assigned L m l t f) S (assigned-grown p.line) k h (assigned-other p.line k n)
      ]

      pub assigned-passed : SoundGiven A L (assigned L m l t f)
      assigned-passed = record {
        allowed = S.allowed;
        records = S.records;
        fewer = fewer-updates (assigned L m l t f) assigned-updated;
        page_room = rw (pages-used-kept m (assigned L m l t f) (assigned-grown p.line) refl) S.page_room;
        node_room = rw (assigned-used p.line x.published) p.nodes-left;
        tickets = assigned-tickets;
        updated = assigned-updated;
        begun = rw assigned-lines S.begun;
        few = rw assigned-lines S.few;
        lines = λ k h. assigned-lines-sound k (rw assigned-lines at h);
        windows = S.windows;
      }

    pub assign-sound : assign_number L m l t f ≡ 0 → SoundGiven A L (assigned L m l t f)
    assign-sound z = assigned-passed (assign-passed L m l t f z)
