-- A sound history: what is true of a line as it reads, whichever line it is.
-- Assumes nothing.
use Rattle.std.proofs.Common.{None, Some}
use mathlib.Core.Path.{◌≡◌}
use mathlib.Core.Bool.{true}
use Prim.Native.Nat.{ℕ, zero, suc, ◌+◌, ◌≤◌, ◌<◌, max}
use native.Mathlib.Omega.{arith}
use lib.ListN.{length, get_or}
use Rattle.tree.proofs.Weaving.{Inside, accepted-inside, weaving-length}
use Rattle.tree.specs.Tree.{count_of, weaving, update}
use Rattle.tree.specs.Walk.{Accepted}
use Rattle.model.specs.History.{Page, History, pages_of, ticket_at, version_at, updates, blob_size, all_filled, complete}
use Rattle.model.specs.Model.{Limits, Model, line_at, history}
use Rattle.model.proofs.Model.Sound.{Allowed, Sound}
use Rattle.model.proofs.History.Updates.{update-at, size-at}
use Rattle.model.proofs.Model.Shown.{versions-length, version-shown, update-shown}
use Rattle.model.proofs.Model.Facts.{shown-sound}

-- Ticket number t.
pub record SoundTicket (L : Limits) (h : History) (t : ℕ) : Type 0 where
  pub some-pages : 0 < pages_of (ticket_at h t)
  pub few : pages_of (ticket_at h t) ≤ 64
  pub bytes : (i : ℕ) (x : Page) → get_or (ticket_at h t).slots i None ≡ Some x → length x ≡ L.size

-- Version number v.
pub record SoundVersion (h : History) (v : ℕ) : Type 0 where
  pub from : 0 < (version_at h v).ticket
  pub upto : (version_at h v).ticket ≤ length h.tickets
  pub puts : all_filled (ticket_at h (version_at h v).ticket).slots ≡ true
  pub woven : (ticket_at h (version_at h v).ticket).woven ≤ count_of (update (updates h) v)
  pub inside : (update (updates h) v).last < 4096
  pub upward : (version_at h v).size ≤ 4096

pub record SoundHistory (L : Limits) (h : History) : Type 0 where
  pub allowed : Allowed L
  pub tickets : (t : ℕ) → 0 < t → t ≤ length h.tickets → SoundTicket L h t
  pub versions : (v : ℕ) → 0 < v → v ≤ length h.versions → SoundVersion h v
  pub accepted : (v : ℕ) → v < length h.versions → Accepted (updates h) v
  pub published : h.published ≤ length h.versions
  pub woven : (v : ℕ) → 0 < v → v ≤ h.published → complete h v ≡ true

-- ---- every line of a sound model has one

module _ (L : Limits) (m : Model) (S : Sound L m) (l : ℕ) (there : l < length m.lines) where
  line-version : (v : ℕ) → 0 < v → v ≤ length (line_at m l).shown → SoundVersion (history m l) v
  line-version v o h =
      let s = shown-sound L m S l there v o h in
      let e = version-shown m l v in
      let u = update-shown m l v in
      record {
        from = rw e s.from;
        upto = rw e s.upto;
        puts = rw e s.puts;
        woven = rw (e, u) s.woven;
        inside = rw u s.inside;
        upward = rw e s.upward;
      }

  pub line-history : SoundHistory L (history m l)
  line-history =
      let x = S.lines l there in
      let n = versions-length m l in
      record {
        allowed = S.allowed;
        tickets = λ t o h. let k = S.tickets t o h in record { some-pages = k.some-pages; few = k.few; bytes = k.bytes };
        versions = λ v o h. line-version v o (omega arith);
        accepted = λ v h. x.accepted v (omega arith);
        published = omega (arith, x.published);
        woven = x.woven;
      }

-- ---- what follows

module _ (L : Limits) (h : History) (S : SoundHistory L h) where
  -- No version has more than 4096 pages; version 0 has none.
  pub size_small : (v : ℕ) → v ≤ length h.versions → (version_at h v).size ≤ 4096
  size_small zero q = omega arith
  size_small (suc v) q = (S.versions (suc v) (omega arith) q).upward

  pub blob-small : blob_size h ≤ 4096
  blob-small = size_small (length h.versions) (omega arith)

  module _ (v : ℕ) (o : 0 < v) (q : v ≤ length h.versions) where
    -- The update's pages are those of its ticket, from f on.
    pub update-end : suc (update (updates h) v).last ≡ (version_at h v).f + pages_of (ticket_at h (version_at h v).ticket)
    update-end =
        let s = S.versions v o q in
        let k = S.tickets (version_at h v).ticket s.from s.upto in
        rw (update-at h v) (omega (arith, k.some-pages))

    pub update-inside : Inside (update (updates h) v)
    update-inside = accepted-inside (updates h) (length h.versions) S.accepted v o q

    pub weaving-count : length (weaving (update (updates h) v)) ≡ count_of (update (updates h) v)
    weaving-count = weaving-length (update (updates h) v) update-inside

  -- An update's pages begin inside the version before, or at its end, and the size grows to hold them.
  pub version-starts : (v : ℕ) → v < length h.versions → (version_at h (suc v)).f ≤ (version_at h v).size
  version-starts v q = rw (update-at h (suc v), size-at h v) at (S.accepted v q).starts

  pub version-grows : (v : ℕ) → v < length h.versions
      → (version_at h (suc v)).size ≡ max (version_at h v).size ((version_at h (suc v)).f + pages_of (ticket_at h (version_at h (suc v)).ticket))
  version-grows v q =
      let g = (S.accepted v q).grows in
      let s : (update (updates h) (suc v)).size ≡ (version_at h (suc v)).size = rw (update-at h (suc v)) in
      omega (arith, update-end (suc v) (omega arith) q, size-at h v)
