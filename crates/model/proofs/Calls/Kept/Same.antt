-- What a call leaves as it was stays sound: a ticket, an update, and a line but for what the call adds to it.
-- Assumes nothing.
use mathlib.Core.Path.{◌≡◌, ap, sym, subst, ◌∙◌}
use mathlib.Core.Logic.{inl, inr}
use Prim.Native.Nat.{ℕ, zero, suc, ◌≤◌, ◌<◌}
use native.Mathlib.Omega.{arith}
use lib.ListN.{length}
use Rattle.tree.specs.Tree.{Update, count_of, nth}
use Rattle.tree.specs.Walk.{Accepted}
use Rattle.tree.proofs.Meets.{lt-or-le}
use Rattle.model.specs.History.{Version, to_update, updates}
use Rattle.model.specs.Model.{Limits, Model, Line, line_at, update_at, history, ticket_update}
use Rattle.model.specs.OnModel.{ticket_in}
use Rattle.model.proofs.Model.Sound.{SoundGiven, TicketSound, UpdateSound, LineSound}
use Rattle.model.proofs.Lists.Nth.{nth_past}
use Rattle.model.proofs.History.Updates.{accepted-same}
use Rattle.model.proofs.Model.Shown.{shown_at, Whole, complete-whole, whole-complete}
use Rattle.model.proofs.Calls.Grows.{Grown, update-grown, whole-grown}
use Rattle.model.proofs.Calls.Older.{older, older-version, older-update, older-size}

pub ticket-same : (L : Limits) (m m' : Model) (t : ℕ) → ticket_in m' t ≡ ticket_in m t → (ticket_update m' t ≡ 0 → ticket_update m t ≡ 0)
    → TicketSound L m t → TicketSound L m' t
ticket-same L m m' t e v s = record {
  some-pages = rw e s.some-pages;
  few = rw e s.few;
  bytes = rw e s.bytes;
  unwoven = λ z. rw e (s.unwoven (v z));
}

-- The version by which its line shows an update is one of the line's.
pub number-upto : (m : Model) (k : ℕ) → 0 < k → UpdateSound m k → (update_at m k).number ≤ length (line_at m (update_at m k).line).shown
number-upto m k o s = elim (lt-or-le (length (line_at m (update_at m k).line).shown) (update_at m k).number) [
  | inl h ↦ absurd (omega (arith, s.shown, nth_past 0 (line_at m (update_at m k).line).shown (update_at m k).number h))
  | inr h ↦ h
]

-- A version that a call adds to line l, as number v.
pub record NewVersion (m : Model) (l v : ℕ) : Type 0 where
  pub some : 0 < shown_at m l (suc v)
  pub most : shown_at m l (suc v) ≤ length m.updates
  pub number : (update_at m (shown_at m l (suc v))).number ≡ suc v
  pub own : (update_at m (shown_at m l (suc v))).line ≡ l
  pub accepted : Accepted (updates (history m l)) v

module _ {A : Type 0} (L : Limits) (m m' : Model) (S : SoundGiven A L m) (g : Grown m m') where
  pub update-kept : (k : ℕ) → 0 < k → k ≤ length m.updates
      → (ticket_in m' (update_at m k).ticket).woven ≤ count_of (to_update m.tickets (update_at m k)) → UpdateSound m' k
  update-kept k o h w =
      let s = S.updated k o h in
      let e = g.version k h in
      let x = g.line (update_at m k).line s.line in
      record {
        from = rw e s.from;
        upto = rw e (omega (arith, s.upto, g.tickets));
        back = rw e (g.got (update_at m k).ticket (rw s.back o) ∙ s.back);
        puts = rw (e, g.slots k o h) s.puts;
        woven = subst (λ (u : Update). (ticket_in m' (update_at m' k).ticket).woven ≤ count_of u) (sym (update-grown m m' g k h)) (rw e w);
        inside = subst (λ (u : Update). u.last < 4096) (sym (update-grown m m' g k h)) s.inside;
        upward = rw e s.upward;
        line = rw e (omega (arith, s.line, g.lines));
        own = rw (e, x.start) s.own;
        shown = rw e (x.shown (update_at m k).number (number-upto m k o s) ∙ s.shown);
      }

  -- A line that was there, with the versions that the call adds to it and the versions that it publishes.
  module _ (l : ℕ) (there : l < length m.lines)
      (new : (v : ℕ) → length (line_at m l).shown ≤ v → v < length (line_at m' l).shown → NewVersion m' l v)
      (room : (line_at m' l).published ≤ length (line_at m' l).shown)
      (now : (v : ℕ) → (line_at m l).published < v → v ≤ (line_at m' l).published → Whole m' (shown_at m' l v)) where
    x : LineSound m l
    x = S.lines l there

    from-source : (v : ℕ) → 0 < l → v ≤ (line_at m l).start → shown_at m' (line_at m l).source v ≡ shown_at m (line_at m l).source v
    from-source v o h =
        let s = x.source o in
        (g.line (line_at m l).source (omega arith)).shown v (omega (arith, x.sourced o, (S.lines (line_at m l).source (omega arith)).published))

    pub line_kept : LineSound m' l
    line_kept =
        let y = g.line l there in
        record {
          first = λ z. rw y.start (x.first z);
          source = λ o. rw y.source (x.source o);
          started = rw y.start (omega (arith, x.started, y.further));
          published = room;
          sourced = λ o.
              let s = x.source o in
              rw (y.start, y.source) (omega (arith, x.sourced o, (g.line (line_at m l).source (omega arith)).further));
          some = some-kept;
          most = most-kept;
          number = number-kept;
          own = own-kept;
          shared = λ v o p h. shared_kept v o p (rw y.start at h);
          accepted = accepted-kept;
          woven = λ v o h. whole-complete m' l v (whole-kept v o h);
        }
      where
        some-kept : (v : ℕ) → 0 < v → v ≤ length (line_at m' l).shown → 0 < shown_at m' l v
        some-kept zero o h = absurd (omega arith)
        some-kept (suc v) o h = elim (lt-or-le v (length (line_at m l).shown)) [
          | inl q ↦ rw (older L m m' S g l there (suc v) q) (x.some (suc v) o q)
          | inr q ↦ (new v q h).some
        ]

        most-kept : (v : ℕ) → 0 < v → v ≤ length (line_at m' l).shown → shown_at m' l v ≤ length m'.updates
        most-kept zero o h = absurd (omega arith)
        most-kept (suc v) o h = elim (lt-or-le v (length (line_at m l).shown)) [
          | inl q ↦ rw (older L m m' S g l there (suc v) q) (omega (arith, x.most (suc v) o q, g.updates))
          | inr q ↦ (new v q h).most
        ]

        number-kept : (v : ℕ) → 0 < v → v ≤ length (line_at m' l).shown → (update_at m' (shown_at m' l v)).number ≡ v
        number-kept zero o h = absurd (omega arith)
        number-kept (suc v) o h = elim (lt-or-le v (length (line_at m l).shown)) [
          | inl q ↦ ap (λ (u : Version). u.number) (older-version L m m' S g l there (suc v) q) ∙ x.number (suc v) o q
          | inr q ↦ (new v q h).number
        ]

        own-kept : (v : ℕ) → (line_at m' l).start < v → v ≤ length (line_at m' l).shown → (update_at m' (shown_at m' l v)).line ≡ l
        own-kept zero o h = absurd (omega arith)
        own-kept (suc v) o h = elim (lt-or-le v (length (line_at m l).shown)) [
          | inl q ↦ ap (λ (u : Version). u.line) (older-version L m m' S g l there (suc v) q) ∙ x.own (suc v) (omega (arith, (g.line l there).start)) q
          | inr q ↦ (new v q h).own
        ]

        shared_kept : (v : ℕ) → 0 < l → 0 < v → v ≤ (line_at m l).start → shown_at m' l v ≡ nth 0 (line_at m' (line_at m' l).source).shown v
        shared_kept v o p h =
            older L m m' S g l there v (omega (arith, x.started, x.published))
            ∙ x.shared v o p h
            ∙ sym (ap (λ (s : ℕ). shown_at m' s v) (g.line l there).source ∙ from-source v o h)

        accepted-kept : (v : ℕ) → v < length (line_at m' l).shown → Accepted (updates (history m' l)) v
        accepted-kept v h = elim (lt-or-le v (length (line_at m l).shown)) [
          | inl q ↦
              let u = older-update L m m' S g l there (suc v) q in
              let s = older-size L m m' S g l there v (omega arith) in
              accepted-same (updates (history m l)) (updates (history m' l)) v u s (x.accepted v q)
          | inr q ↦ (new v q h).accepted
        ]

        whole-kept : (v : ℕ) → 0 < v → v ≤ (line_at m' l).published → Whole m' (shown_at m' l v)
        whole-kept v o h = elim (lt-or-le (line_at m l).published v) [
          | inl q ↦ now v q h
          | inr q ↦
              let n : v ≤ length (line_at m l).shown = omega (arith, x.published) in
              rw (older L m m' S g l there v n) (whole-grown m m' g (shown_at m l v) (x.some v o n) (x.most v o n) (complete-whole m l v (x.woven v o q)))
        ]

  -- A line that the call leaves.
  pub line_same : (l : ℕ) → l < length m.lines → line_at m' l ≡ line_at m l → LineSound m' l
  line_same l there e =
      let n : length (line_at m' l).shown ≡ length (line_at m l).shown = ap (λ (y : Line). length y.shown) e in
      let p : (line_at m' l).published ≡ (line_at m l).published = ap (λ (y : Line). y.published) e in
      line_kept l there (λ v a b. absurd (omega arith)) (omega (arith, (S.lines l there).published)) (λ v a b. absurd (omega arith))
