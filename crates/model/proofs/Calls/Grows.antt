-- What every call leaves of a model: its updates, the pages of its tickets, and its lines, which show the same and more.
-- Assumes nothing.
use mathlib.Core.Path.{◌≡◌, refl, ap, sym, ◌∙◌}
use Prim.Native.Nat.{ℕ, zero, suc, ◌≤◌, ◌<◌}
use native.Mathlib.Omega.{arith}
use lib.ListN.{length}
use Rattle.tree.specs.Tree.{Update, nth, count_of}
use Rattle.model.specs.History.{Version, pages_of, to_update}
use Rattle.model.specs.Model.{Line, Model, line_at, update_at, ticket_update}
use Rattle.model.specs.OnModel.{ticket_in}
use Rattle.model.proofs.Model.Shown.{Whole}

-- A line before and after: what it begins from is the same, and it shows the same and more.
pub record LineGrown (x y : Line) : Type 0 where
  pub source : y.source ≡ x.source
  pub start : y.start ≡ x.start
  pub longer : length x.shown ≤ length y.shown
  pub shown : (v : ℕ) → v ≤ length x.shown → nth 0 y.shown v ≡ nth 0 x.shown v
  pub further : x.published ≤ y.published

pub line-unmoved : (x y : Line) → y ≡ x → LineGrown x y
line-unmoved x y e = record {
  source = ap (λ (z : Line). z.source) e;
  start = ap (λ (z : Line). z.start) e;
  longer = rw e (omega arith);
  shown = λ v h. ap (λ (z : Line). nth 0 z.shown v) e;
  further = rw e (omega arith);
}

pub line-then : (x y z : Line) → LineGrown x y → LineGrown y z → LineGrown x z
line-then x y z g h = record {
  source = h.source ∙ g.source;
  start = h.start ∙ g.start;
  longer = omega arith;
  shown = λ v l. h.shown v (omega arith) ∙ g.shown v l;
  further = omega arith;
}

pub record Grown (m m' : Model) : Type 0 where
  pub tickets : length m.tickets ≤ length m'.tickets
  pub updates : length m.updates ≤ length m'.updates
  pub lines : length m.lines ≤ length m'.lines
  pub version : (k : ℕ) → k ≤ length m.updates → update_at m' k ≡ update_at m k
  pub got : (t : ℕ) → 0 < ticket_update m t → ticket_update m' t ≡ ticket_update m t
  -- A ticket keeps its n, and what was put for an update's ticket stays.
  pub pages : (t : ℕ) → t ≤ length m.tickets → pages_of (ticket_in m' t) ≡ pages_of (ticket_in m t)
  pub slots : (k : ℕ) → 0 < k → k ≤ length m.updates → (ticket_in m' (update_at m k).ticket).slots ≡ (ticket_in m (update_at m k).ticket).slots
  -- No node is woven past the last.
  pub whole : (k : ℕ) → 0 < k → k ≤ length m.updates → Whole m k → (ticket_in m' (update_at m k).ticket).woven ≡ (ticket_in m (update_at m k).ticket).woven
  pub line : (l : ℕ) → l < length m.lines → LineGrown (line_at m l) (line_at m' l)

-- ---- the updates

module _ (m m' : Model) (g : Grown m m') where
  pub update-grown : (k : ℕ) → k ≤ length m.updates → to_update m'.tickets (update_at m' k) ≡ to_update m.tickets (update_at m k)
  update-grown zero h = refl
  update-grown (suc k) h = rw (g.version (suc k) h, g.slots (suc k) (omega arith) h)

  pub whole-grown : (k : ℕ) → 0 < k → k ≤ length m.updates → Whole m k → Whole m' k
  whole-grown k o h w =
      ap (λ (x : Version). (ticket_in m' x.ticket).woven) (g.version k h) ∙ g.whole k o h w ∙ w ∙ sym (ap (λ (u : Update). count_of u) (update-grown k h))

-- ---- no call, and one call after another

pub grown-same : (m : Model) → Grown m m
grown-same m = record {
  tickets = omega arith;
  updates = omega arith;
  lines = omega arith;
  version = λ k h. refl;
  got = λ t o. refl;
  slots = λ k o h. refl;
  pages = λ t h. refl;
  whole = λ k o h w. refl;
  line = λ l h. line-unmoved (line_at m l) (line_at m l) refl;
}

pub grown-then : (m m' m'' : Model) → Grown m m' → Grown m' m'' → Grown m m''
grown-then m m' m'' g h = record {
  tickets = omega arith;
  updates = omega arith;
  lines = omega arith;
  version = λ k l. h.version k (omega arith) ∙ g.version k l;
  got = λ t o. h.got t (rw (g.got t o) o) ∙ g.got t o;
  slots = λ k o l. rw (g.version k l) at (h.slots k o (omega arith)) ∙ g.slots k o l;
  pages = λ t l. h.pages t (omega arith) ∙ g.pages t l;
  whole = λ k o l w. rw (g.version k l) at (h.whole k o (omega arith) (whole-grown m m' g k o l w)) ∙ g.whole k o l w;
  line = λ l n. line-then (line_at m l) (line_at m' l) (line_at m'' l) (g.line l n) (h.line l (omega arith));
}
