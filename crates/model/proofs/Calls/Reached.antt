-- PUBLISH of a line repeated, at any minutes: it moves that line's number published alone, past complete versions. When it waits, that is at the last before the first
-- incomplete one; outside the windows it comes to wait.
-- Assumes nothing.
use mathlib.Core.Path.{◌≡◌, refl, sym, ap, subst, ◌∙◌}
use mathlib.Core.Logic.{inl, inr}
use mathlib.Core.Bool.{Bool, true, false}
use mathlib.Core.List.{List, [], ◌∷◌}
use Prim.Native.Nat.{ℕ, zero, suc, ◌+◌, ◌≤◌, ◌<◌}
use native.Mathlib.Omega.{arith}
use borrow.Author.Tests.{lt-ltb}
use lib.ListN.{length, set}
use lib.Seq.{set-get_or, set-set}
use Rattle.tree.proofs.Meets.{lt-or-le}
use Rattle.model.specs.History.{History, complete, due}
use Rattle.model.specs.Model.{Limits, Line, Model, no_line, with_published, with_lines, line_at, update_at, history}
use Rattle.model.specs.OnModel.{published, on_model}
use Rattle.model.specs.Run.{run}
use Rattle.model.specs.Due.{publishes, Open, AllOpen, complete_up_to, last_due}
use Rattle.model.proofs.Model.Sound.{Sound}
use Rattle.model.proofs.History.SoundHistory.{line-history}
use Rattle.model.proofs.Model.Passed.{due-passed}
use Rattle.model.proofs.Calls.Lines.{line-this}
use Rattle.model.proofs.Calls.Histories.{up_to, reads, published-history}
use Rattle.model.proofs.Calls.Held.{undue-still, publish-moves}
use Rattle.model.proofs.Calls.Kept.Publish.{published-this, published-lines}

-- ---- the last version before the first incomplete one

-- Versions k + 1 .. q are complete, and q + 1 is not, or q is the last.
pub last-before : (h : History) (n k q : ℕ) → k ≤ q → q ≤ k + n → ((v : ℕ) → k < v → v ≤ q → complete h v ≡ true)
    → (q < k + n → complete h (suc q) ≡ false) → complete_up_to h n k ≡ q
unfolding complete_up_to
last-before h zero k q a b done stop = omega arith
last-before h (suc n) k q a b done stop = elim (lt-or-le k q) [
  | inl l ↦ rw (done (suc k) (omega arith) (omega arith)) (last-before h n (suc k) q (omega arith) (omega arith) (λ v x y. done v (omega arith) y) (λ x. stop (omega arith)))
  | inr l ↦
      let e : k ≡ q = omega arith in
      rw (e, stop (omega arith))
]

-- ---- a history, and a model, with another number published of line l

-- Completeness reads the tickets and the versions alone.
pub complete-alone : (h : History) (k v : ℕ) → complete (up_to h k) v ≡ complete h v
unfolding complete
complete-alone h k v = refl

pub due-false : (h : History) → due h ≡ false → h.published < length h.versions → complete h (suc h.published) ≡ false
unfolding due
due-false h e l = rw (lt-ltb h.published (length h.versions) l) at e

abbrev pub published_to : Model → ℕ → ℕ → Model
published_to m l k = with_lines m (set m.lines l (with_published (line_at m l) k))

to_same : (m : Model) (l : ℕ) → published_to m l (line_at m l).published ≡ m
to_same m l = ap (with_lines m) (set-get_or m.lines l no_line)

module _ (m : Model) (l : ℕ) (there : l < length m.lines) where
  to-line : (j : ℕ) → line_at (published_to m l j) l ≡ with_published (line_at m l) j
  to-line j = line-this m.lines l (with_published (line_at m l) j) there

  to-to : (j k : ℕ) → published_to (published_to m l j) l k ≡ published_to m l k
  to-to j k =
      ap (λ (x : Line). with_lines m (set (set m.lines l (with_published (line_at m l) j)) l (with_published x k))) (to-line j)
      ∙ ap (with_lines m) (set-set m.lines l (with_published (line_at m l) j) (with_published (line_at m l) k))

  pub to-history : (k : ℕ) → history (published_to m l k) l ≡ up_to (history m l) k
  to-history k = ap (reads m.tickets (update_at m)) (to-line k)

-- ---- a list of minutes

-- What PUBLISH of line l at these minutes leaves of m.
pub record Climbed (l : ℕ) (minutes : List ℕ) (m m' : Model) : Type 0 where
  pub is : m' ≡ published_to m l (line_at m' l).published
  pub from : (line_at m l).published ≤ (line_at m' l).published
  pub within : (line_at m' l).published ≤ length (history m l).versions
  -- Each version that they publish is complete.
  pub passed : (v : ℕ) → (line_at m l).published < v → v ≤ (line_at m' l).published → complete (history m l) v ≡ true
  -- Outside the windows, while it is due, each adds one.
  pub rises : AllOpen m.windows minutes → due (history m' l) ≡ true → (line_at m l).published + length minutes ≤ (line_at m' l).published

module _ (L : Limits) (l : ℕ) where
  abbrev pub climb : List ℕ → Model → Model
  climb minutes m = run (on_model L) m (publishes l minutes)

  -- Where it is not due, nothing moves.
  pub stays : (minutes : List ℕ) (m : Model) → due (history m l) ≡ false → climb minutes m ≡ m
  unfolding run
  stays [] m e = refl
  stays (k ∷ minutes) m e = ap (climb minutes) (undue-still L m l k e) ∙ stays minutes m e

  module _ (k : ℕ) (minutes : List ℕ)
      (ih : (m : Model) → l < length m.lines → (line_at m l).published ≤ length (history m l).versions → Climbed l minutes m (climb minutes m))
      (m : Model) (there : l < length m.lines) (h : (line_at m l).published ≤ length (history m l).versions) where
    -- The first of them publishes a version.
    climbed-moved : due (history m l) ≡ true → Climbed l (k ∷ minutes) m (climb minutes (published L m l))
    climbed-moved e =
        let d = due-passed (history m l) e in
        let m₁ = published L m l in
        let p : (line_at m₁ l).published ≡ suc (line_at m l).published = ap (λ (x : Line). x.published) (published-this L m l there) in
        let q = published-history L m l there in
        let s : length (history m₁ l).versions ≡ length (history m l).versions = ap (λ (x : History). length x.versions) q in
        let c = ih m₁ (rw (published-lines L m l there) there) (omega (arith, d.left)) in
        record {
          is = c.is ∙ to-to m l there (suc (line_at m l).published) (line_at (climb minutes m₁) l).published;
          from = omega (arith, c.from);
          within = omega (arith, c.within);
          passed = λ v x y. elim (lt-or-le (suc (line_at m l).published) v) [
            | inl g ↦ sym (complete-alone (history m l) (suc (line_at m l).published) v) ∙ sym (ap (λ (w : History). complete w v) q) ∙ c.passed v (omega arith) y
            | inr g ↦
                let t : v ≡ suc (line_at m l).published = omega arith in
                rw t d.whole
          ];
          rises = λ all z. omega (arith, c.rises (λ i b. all (suc i) (omega arith)) z);
        }

    -- It moves nothing, which outside the windows says that it is not due.
    climbed-still : (Open m.windows k → due (history m l) ≡ false) → Climbed l (k ∷ minutes) m (climb minutes m)
    climbed-still undue =
        let c = ih m there h in
        record {
          is = c.is;
          from = c.from;
          within = c.within;
          passed = c.passed;
          rises = λ all z.
              let e = undue (all 0 (omega arith)) in
              let y : due (history m l) ≡ true = sym (ap (λ (x : Model). due (history x l)) (stays minutes m e)) ∙ z in
              absurd (let q : ◌≡◌ {A = ℕ} 0 1 = cc in omega arith);
        }

    climbed-then : Climbed l (k ∷ minutes) m (climb (k ∷ minutes) m)
    unfolding run
    climbed-then = elim (publish-moves L m l k there) [
      | inl p ↦ subst (λ (x : Model). Climbed l (k ∷ minutes) m (climb minutes x)) (sym p.moved) (climbed-moved p.due)
      | inr p ↦ subst (λ (x : Model). Climbed l (k ∷ minutes) m (climb minutes x)) (sym p.still) (climbed-still p.undue)
    ]

  pub climbed : (minutes : List ℕ) (m : Model) → l < length m.lines → (line_at m l).published ≤ length (history m l).versions
      → Climbed l minutes m (climb minutes m)
  unfolding run
  climbed [] m there h =
      record { is = sym (to_same m l); from = omega arith; within = h; passed = λ v x y. absurd (omega arith); rises = λ all z. omega arith }
  climbed (k ∷ minutes) m there h = climbed-then k minutes (climbed minutes) m there h

  module _ (m : Model) (S : Sound L m) (there : l < length m.lines) (minutes : List ℕ) where
    -- What they leave of m.
    after : Climbed l minutes m (climb minutes m)
    after = climbed minutes m there (line-history L m S l there).published

    -- They move the line's number published alone: every other line, the updates, the tickets and the windows are as they were.
    pub reached-alone : climb minutes m ≡ published_to m l (line_at (climb minutes m) l).published
    reached-alone = after.is

    pub reached-windows : (climb minutes m).windows ≡ m.windows
    reached-windows = ap (λ (x : Model). x.windows) reached-alone

    -- What the line reads as after them.
    reached-history : history (climb minutes m) l ≡ up_to (history m l) (line_at (climb minutes m) l).published
    reached-history = ap (λ (x : Model). history x l) reached-alone ∙ to-history m l there (line_at (climb minutes m) l).published

    -- When it is not due, the number published is the last version before the first incomplete one.
    pub reached-exact : due (history (climb minutes m) l) ≡ false → (line_at (climb minutes m) l).published ≡ last_due (history m l)
    reached-exact e =
        let h = history m l in
        let k = (line_at (climb minutes m) l).published in
        let d : due (up_to h k) ≡ false = sym (ap due reached-history) ∙ e in
        let done : (v : ℕ) → 0 < v → v ≤ k → complete h v ≡ true =
        λ v x y. elim (lt-or-le (line_at m l).published v) [ inl g ↦ after.passed v g y | inr g ↦ (S.lines l there).woven v x g ] in
        let stop : k < length h.versions → complete h (suc k) ≡ false = λ x. sym (complete-alone h k (suc k)) ∙ due-false (up_to h k) d x in
        sym (last-before h (length h.versions) 0 k (omega arith) (omega (arith, after.within)) done (λ x. stop (omega arith)))

    -- As many calls outside the windows as there are versions are enough.
    pub reached-comes : AllOpen m.windows minutes → length (history m l).versions ≤ length minutes → due (history (climb minutes m) l) ≡ false
    reached-comes all enough = by (due (history (climb minutes m) l)) refl
      where
        by : (b : Bool) → due (history (climb minutes m) l) ≡ b → b ≡ false
        by true e =
            let d = due-passed (up_to (history m l) (line_at (climb minutes m) l).published) (sym (ap due reached-history) ∙ e) in
            absurd (omega (arith, after.rises all e, d.left))
        by false e = refl
