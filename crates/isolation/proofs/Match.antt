-- Lines that are the same, matched states, and a matched state after a call that leaves its line as it is.
-- Assumes nothing.
use mathlib.Core.Path.{◌≡◌, refl, sym, subst, ◌∙◌}
use mathlib.Core.Logic.{inl, inr}
use mathlib.Core.List.{List}
use Prim.Native.Nat.{ℕ, ◌≤◌, ◌<◌}
use lib.ListN.{length}
use Rattle.tree.specs.Tree.{nth}
use Rattle.tree.proofs.Meets.{lt-or-le}
use Rattle.model.specs.History.{History}
use Rattle.model.specs.Model.{Model, history}
use Rattle.model.specs.OnModel.{ticket_in}
use Rattle.isolation.specs.Isolation.{own_number, Tickets, SameLine, Match}

line-refl : (h : History) → SameLine h h
line-refl h = record { count = refl; versions = λ v. refl; woven = λ v. refl; published = refl }

pub line-sym : {h h' : History} → SameLine h h' → SameLine h' h
line-sym X = record { count = sym X.count; versions = λ v. sym (X.versions v); woven = λ v. sym (X.woven v); published = sym X.published }

pub line-trans : {h h' h'' : History} → SameLine h h' → SameLine h' h'' → SameLine h h''
line-trans X Y = record {
  count = X.count ∙ Y.count;
  versions = λ v. X.versions v ∙ Y.versions v;
  woven = λ v. X.woven v ∙ Y.woven v;
  published = X.published ∙ Y.published;
}

pub line-by : {h h' : History} → h ≡ h' → SameLine h h'
line-by {h = h} e = subst (SameLine h) e (line-refl h)

-- Lines that are the same as two lines that are the same.
pub line-between : {h h' g g' : History} → SameLine h g → SameLine h' g' → SameLine g g' → SameLine h h'
line-between X X' Y = line-trans X (line-trans Y (line-sym X'))

pub match-sym : {l l' : ℕ} {ts ts' : List ℕ} {m m' : Model} → Match l l' ts ts' m m' → Match l' l ts' ts m' m
match-sym M =
    let T = M.matched in
    record {
      matched = record { tickets = T.tickets'; tickets' = T.tickets; count = sym T.count; slots = λ k. sym (T.slots k) };
      own = λ k. sym (M.own k);
      lines = λ b b'. line-sym (M.lines b' b);
      windows = sym M.windows;
    }

pub match-refl : (l : ℕ) (ts : List ℕ) (m : Model) → Tickets ts m.tickets → Match l l ts ts m m
match-refl l ts m T = record {
  matched = record { tickets = T; tickets' = T; count = refl; slots = λ k. refl };
  own = λ k. refl;
  lines = λ b b'. line-refl (history m l);
  windows = refl;
}

-- A call leaves line l and these tickets as they are.
pub record Framed (l : ℕ) (ts : List ℕ) (m m₁ : Model) : Type 0 where
  pub tickets : Tickets ts m₁.tickets
  pub slots : (k : ℕ) → (ticket_in m₁ (nth 0 ts k)).slots ≡ (ticket_in m (nth 0 ts k)).slots
  pub own : (k : ℕ) → own_number l m₁ (nth 0 ts k) ≡ own_number l m (nth 0 ts k)
  pub line : l < length m.lines → SameLine (history m₁ l) (history m l)
  pub windows : m₁.windows ≡ m.windows

pub framed-refl : (l : ℕ) (ts : List ℕ) (m : Model) → Tickets ts m.tickets → Framed l ts m m
framed-refl l ts m T = record { tickets = T; slots = λ k. refl; own = λ k. refl; line = λ h. line-refl (history m l); windows = refl }

-- The line that begins by the call, where the other has begun, is the same.
abbrev pub Joins : ℕ → ℕ → Model → Model → Model → Type 0
Joins l l' m m₁ m' = length m.lines ≤ l → l < length m₁.lines → l' < length m'.lines → SameLine (history m₁ l) (history m' l')

pub match-framed : {l l' : ℕ} {ts ts' : List ℕ} {m m' m₁ : Model} → Match l l' ts ts' m m' → Framed l ts m m₁ → Joins l l' m m₁ m' → Match l l' ts ts' m₁ m'
match-framed {l = l} {m = m} M F joins =
    let T = M.matched in
    record {
      matched = record { tickets = F.tickets; tickets' = T.tickets'; count = T.count; slots = λ k. F.slots k ∙ T.slots k };
      own = λ k. F.own k ∙ M.own k;
      lines = λ h h'. elim (lt-or-le l (length m.lines)) [ inl b ↦ line-trans (F.line b) (M.lines b h') | inr n ↦ joins n h h' ];
      windows = F.windows ∙ M.windows;
    }
