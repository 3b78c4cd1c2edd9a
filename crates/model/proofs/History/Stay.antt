-- A version depends on the versions up to it and on their tickets' slots and pages only.
-- Assumes nothing.
use mathlib.Core.Path.{◌≡◌, refl, ap, sym, ◌∙◌}
use Prim.Native.Nat.{ℕ, zero, suc, ◌+◌, ◌^◌, ◌≤◌, ◌<◌}
use native.Mathlib.Omega.{arith}
use Rattle.tree.specs.Tree.{Node, node, update, newest}
use Rattle.tree.proofs.Newest.{newest-le}
use Rattle.model.specs.History.{Version, History, ticket_at, version_at, updates}
use Rattle.model.specs.InTurn.{blob_at, bytes_at, joined}
use Rattle.model.specs.Stamp.{stamp_at, stamps_upto}
use Rattle.model.specs.Model.{number_in, numbered}
use Rattle.model.specs.Layout.{leaf_serial}
use Rattle.model.specs.OnModel.{left_of, right_of}
use Rattle.model.proofs.History.Updates.{newest-same, update-at}
use Rattle.model.proofs.History.Stamps.{stamp-by-blobs}

-- Two histories, the same up to version k.
pub record SameUpTo (h w : History) (k : ℕ) : Type 0 where
  pub versions : (v : ℕ) → v ≤ k → version_at h v ≡ version_at w v
  pub slots : (v : ℕ) → v ≤ k → (ticket_at h (version_at h v).ticket).slots ≡ (ticket_at w (version_at h v).ticket).slots
  pub serials : (v a : ℕ) → 0 < v → v ≤ k → leaf_serial h v a ≡ leaf_serial w v a

pub same-less : (h w : History) (k j : ℕ) → j ≤ k → SameUpTo h w k → SameUpTo h w j
same-less h w k j q s = record {
  versions = λ v p. s.versions v (omega arith);
  slots = λ v p. s.slots v (omega arith);
  serials = λ v a o p. s.serials v a o (omega arith);
}

pub same_then : (h w x : History) (k : ℕ) → SameUpTo h w k → SameUpTo w x k → SameUpTo h x k
same_then h w x k s r = record {
  versions = λ v p. s.versions v p ∙ r.versions v p;
  slots = λ v p. s.slots v p ∙ rw (s.versions v p) (r.slots v p);
  serials = λ v a o p. s.serials v a o p ∙ r.serials v a o p;
}

pub same_back : (h w : History) (k : ℕ) → SameUpTo h w k → SameUpTo w h k
same_back h w k s = record {
  versions = λ v p. sym (s.versions v p);
  slots = λ v p. sym (rw (s.versions v p) at (s.slots v p));
  serials = λ v a o p. sym (s.serials v a o p);
}

module _ (h w : History) (k : ℕ) (same : SameUpTo h w k) where
  pub update-stays : (v : ℕ) → v ≤ k → update (updates h) v ≡ update (updates w) v
  update-stays v p = rw (update-at h v, update-at w v, same.slots v p, same.versions v p)

  pub newest-stays : (v : ℕ) → v ≤ k → (a s : ℕ) → newest (updates h) v a s ≡ newest (updates w) v a s
  newest-stays = newest-same (updates h) (updates w) k update-stays

  -- What a version is called in the node area.
  pub number-stays : (v : ℕ) → v ≤ k → number_in h v ≡ number_in w v
  number-stays v p = ap (λ (x : Version). numbered x.line v) (same.versions v p)

  -- The numbers of a version's nodes.
  pub left-stays : (v : ℕ) (number : ℕ → ℕ) → v ≤ k → (x : Node) → left_of h v number x ≡ left_of w v number x
  left-stays v number p (node a zero) = rw (update-stays v p)
  left-stays v number p (node a (suc j)) =
      let le = newest-le (updates h) v a (2 ^ j) in
      number-stays (newest (updates h) v a (2 ^ j)) (omega arith) ∙ ap (number_in w) (newest-stays v p a (2 ^ j))

  pub right-stays : (v : ℕ) → v ≤ k → (x : Node) → right_of h v x ≡ right_of w v x
  right-stays v p (node a zero) = refl
  right-stays v p (node a (suc j)) =
      let le = newest-le (updates h) v (a + 2 ^ j) (2 ^ j) in
      number-stays (newest (updates h) v (a + 2 ^ j) (2 ^ j)) (omega arith) ∙ ap (number_in w) (newest-stays v p (a + 2 ^ j) (2 ^ j))

  pub size-stays : (v : ℕ) → v ≤ k → (version_at h v).size ≡ (version_at w v).size
  size-stays v p = ap (λ (x : Version). x.size) (same.versions v p)

  pub blob-stays : (v : ℕ) → v ≤ k → blob_at h v ≡ blob_at w v
  unfolding blob_at
  blob-stays zero p = refl
  blob-stays (suc v) p = rw (same.slots (suc v) p, same.versions (suc v) p, blob-stays v (omega arith))

  pub bytes-stay : (v : ℕ) → v ≤ k → bytes_at h v ≡ bytes_at w v
  bytes-stay v p = ap joined (blob-stays v p)

  -- The stamps of its pages.
  pub stamp-stays : (v : ℕ) → v ≤ k → (p : ℕ) → stamp_at h v p ≡ stamp_at w v p
  stamp-stays v q = stamp-by-blobs h w v (λ u r. blob-stays u (omega arith))

  pub stamps-stay : (v : ℕ) → v ≤ k → (n : ℕ) → stamps_upto h v n ≡ stamps_upto w v n
  unfolding stamps_upto
  stamps-stay v q zero = refl
  stamps-stay v q (suc n) = rw (stamps-stay v q n, stamp-stays v q n)
