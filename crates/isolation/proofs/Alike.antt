-- What matched lines read as is the same: their updates, sizes, blobs, stamps, whether PUBLISH is due, and a ticket assigned on them.
-- Assumes nothing.
use mathlib.Core.Path.{◌≡◌, refl, sym, ap, ◌∙◌}
use mathlib.Core.List.{List}
use Prim.Native.Nat.{ℕ, zero, suc, ◌+◌, ◌-◌, ◌<◌}
use lib.ListN.{length}
use Rattle.tree.specs.Tree.{Update}
use Rattle.model.specs.History.{Version, History, no_version, version_at, to_update, updates, blob_size, complete, due}
use Rattle.model.specs.InTurn.{blob_at}
use Rattle.model.specs.Stamp.{stamp_at}
use Rattle.model.specs.Model.{Limits, Model, ticket_update, history}
use Rattle.model.specs.OnModel.{ticket_in}
use Rattle.model.proofs.Model.Updated.{update-ticket, update-le}
use Rattle.model.proofs.Line.Owner.{own-version}
use Rattle.model.proofs.Model.Facts.{update-got}
use Rattle.model.proofs.History.Stamps.{stamp-by-blobs}
use Rattle.isolation.specs.Isolation.{version_of, Written, SameLine, Match}
use Rattle.isolation.proofs.Lists.{map-pair}
use Rattle.isolation.proofs.Kept.{Kept}
use Rattle.isolation.proofs.Tickets.{Pair, mine-too}

-- The update of a version.
abbrev pub shape : Written → Update
shape w = record { f = w.f; last = w.f + length w.slots - 1; size = w.size }

module _ {h h' : History} (X : SameLine h h') where
  pub update_same : (v : ℕ) → to_update h.tickets (version_at h v) ≡ to_update h'.tickets (version_at h' v)
  update_same v = ap shape (X.versions v)

  pub updates-same : updates h ≡ updates h'
  updates-same = map-pair (to_update h.tickets) (to_update h'.tickets) no_version no_version h.versions h'.versions X.count update_same

  pub size_same : (v : ℕ) → (version_at h v).size ≡ (version_at h' v).size
  size_same v = ap (λ (w : Written). w.size) (X.versions v)

  pub blob-same : blob_size h ≡ blob_size h'
  blob-same = size_same (length h.versions) ∙ ap (λ n. (version_at h' n).size) X.count

  pub pages-same : (v : ℕ) → blob_at h v ≡ blob_at h' v
  unfolding blob_at
  pages-same zero = refl
  pages-same (suc v) = rw (pages-same v, ap (λ (w : Written). w.f) (X.versions (suc v)), ap (λ (w : Written). w.slots) (X.versions (suc v)))

  pub stamp-same : (v p : ℕ) → stamp_at h v p ≡ stamp_at h' v p
  stamp-same v = stamp-by-blobs h h' v (λ u q. pages-same u)

  pub due-same : due h ≡ due h'
  unfolding due complete
  due-same = rw (X.published, X.count, X.woven (suc h'.published), updates-same)

-- ---- a ticket assigned on the line

-- The line shows its version.
pub own_is : {L : Limits} (l : ℕ) (m : Model) (t : ℕ) → Kept L m → 0 < ticket_update m t → (version_of m t).line ≡ l → version_at (history m l) (version_of m t).number ≡ version_of m t
own_is {L = L} l m t S o e = rw e at (own-version L m S (ticket_update m t) o (update-le m t))

-- In the other state it is assigned on the matched line, as the same version, and woven as far.
pub record Own (l l' : ℕ) (m m' : Model) (t t' : ℕ) : Type 0 where
  pub assigned : 0 < ticket_update m' t'
  pub line : (version_of m' t').line ≡ l'
  pub number : (version_of m t).number ≡ (version_of m' t').number
  pub update : to_update m.tickets (version_of m t) ≡ to_update m'.tickets (version_of m' t')
  pub woven : (ticket_in m t).woven ≡ (ticket_in m' t').woven

pub own : {L : Limits} {l l' : ℕ} {ts ts' : List ℕ} {m m' : Model} (M : Match l l' ts ts' m m') (S : Kept L m) (S' : Kept L m') (t t' : ℕ) → Pair l l' ts ts' m m' t t'
    → 0 < ticket_update m t → (version_of m t).line ≡ l → Own l l' m m' t t'
own {L = L} {l = l} {l' = l'} {m = m} {m' = m'} M S S' t t' P o e =
    let q = mine-too M S S' P o e in
    let X = M.lines (rw e at (update-got L m S t o).line) (rw q.1 at (update-got L m' S' t' q.0).line) in
    let v = (version_of m t).number in
    let is = own_is l m t S o e in
    let is' : version_at (history m' l') v ≡ version_of m' t' = ap (version_at (history m' l')) q.2 ∙ own_is l' m' t' S' q.0 q.1 in
    record {
      assigned = q.0;
      line = q.1;
      number = q.2;
      update = ap (to_update m.tickets) (sym is) ∙ update_same X v ∙ ap (to_update m'.tickets) is';
      woven =
          ap (λ (u : ℕ). (ticket_in m u).woven) (sym (ap (λ (x : Version). x.ticket) is ∙ update-ticket m t o))
          ∙ X.woven v
          ∙ ap (λ (u : ℕ). (ticket_in m' u).woven) (ap (λ (x : Version). x.ticket) is' ∙ update-ticket m' t' q.0);
    }
