-- What the worst node count tells a client: no update within its bounds has more nodes, and a store with places for so many in every update never lacks one.
use Rattle.std.specs.Prelude.{◌≡◌, true, List, ℕ, ◌+◌, ◌-◌, ◌*◌, ◌/◌, ◌≤◌, ◌<◌, length}
use Rattle.tree.specs.Worst.{asked as worst_asked, worst}
use Rattle.model.specs.Calls.{Call, on, Act, WRITE, APPEND, Answer, refused, version_is}
use Rattle.model.specs.History.{Version, pages_of, blob_size}
use Rattle.model.specs.Model.{Limits, Model, update_at}
use Rattle.model.specs.OnModel.{ticket_in, next_version}
use Rattle.model.specs.Run.{model_after}
use Rattle.versions.specs.Store.{Areas}
use Rattle.format.specs.Format.{format_number}
use Rattle.demands.specs.Run.{fresh_of, store_after, asked}
use Rattle.demands.specs.Demands.{history_after}

-- A version's update has at most n pages, and leaves at most r.
pub record Within (r n : ℕ) (m : Model) (v : Version) : Type 0 where
  pub pages : pages_of (ticket_in m v.ticket) ≤ n
  pub size : v.size ≤ r

-- So has every update that got a version.
abbrev pub AllWithin : ℕ → ℕ → Model → Type 0
AllWithin r n m = (k : ℕ) → 0 < k → k ≤ length m.updates → Within r n m (update_at m k)

-- After a list of calls, on line l.
module _ (L : Limits) (cs : List Call) (l : ℕ) where
  -- The size of the last version, which is the page that an append begins at.
  abbrev pub end : ℕ
  end = blob_size (history_after L cs l)

  -- Ticket t at page f would be such an update.
  abbrev pub WriteWithin : ℕ → ℕ → ℕ → ℕ → Type 0
  WriteWithin r n t f = Within r n (model_after L cs) (next_version L (model_after L cs) l t f)

  -- Ticket t has n pages, and the last version r.
  pub record Exactly (r n t : ℕ) : Type 0 where
    pub pages : pages_of (ticket_in (model_after L cs) t) ≡ n
    pub size : end ≡ r

module _ (L : Limits) (a : Areas) (cs : List Call) (l : ℕ) where
  -- What the store answers there.
  abbrev pub answer : Act → Answer
  answer x = (asked (store_after L a cs) (on l x)).answer

  -- An update that is accepted is answered at most the worst count; from page r / 2 - 1 on it is that count, and so no less than that of any other write inside.
  pub record Counts (r n : ℕ) : Type 0 where
    pub write : (t f v c : ℕ) → WriteWithin L cs l r n t f → answer (WRITE t f) ≡ version_is v c → c ≤ worst r n
    pub append : (t v c : ℕ) → WriteWithin L cs l r n t (end L cs l) → answer (APPEND t) ≡ version_is v c → c ≤ worst r n
    pub reached : (t v c : ℕ) → Exactly L cs l r n t → answer (WRITE t (r / 2 - 1)) ≡ version_is v c → c ≡ worst r n
    pub costliest : (t f v c u w d : ℕ) → Exactly L cs l r n t → Exactly L cs l r n u → f + n ≤ r
        → answer (WRITE t f) ≡ version_is v c → answer (WRITE u (r / 2 - 1)) ≡ version_is w d → c ≤ d

  -- No update is refused for want of node places.
  pub record Room (r n : ℕ) : Type 0 where
    pub write : (t f : ℕ) → WriteWithin L cs l r n t f → answer (WRITE t f) ≡ refused 15 → ⊥
    pub append : (t : ℕ) → WriteWithin L cs l r n t (end L cs l) → answer (APPEND t) ≡ refused 15 → ⊥

-- After any calls: the counts, and, where the limits have places for the worst count in every update, the room as long as all updates are within r and n.
pub record Sized (L : Limits) (a : Areas) (r n : ℕ) : Type 0 where
  pub counts : (cs : List Call) (l : ℕ) → Counts L a cs l r n
  pub room : L.updates * worst r n ≤ L.nodes → (cs : List Call) → AllWithin r n (model_after L cs) → (l : ℕ) → Room L a cs l r n

-- For any areas that FORMAT accepts, and every r and n that the worst count is asked for.
abbrev pub AllSized : Type 0
AllSized = (L : Limits) (a : Areas) → format_number (fresh_of L) a ≡ 0 → (r n : ℕ) → worst_asked r n ≡ true → Sized L a r n
