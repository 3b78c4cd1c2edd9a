-- One page or one record written, as PUT and the register's calls do: the area is the image of the model after.
-- Assumes nothing.
use Rattle.std.proofs.Common.{None, Some}
use mathlib.Core.Path.{◌≡◌, sym, ap, ◌∙◌}
use mathlib.Core.Logic.{◌≢◌}
use Prim.Native.Nat.{ℕ, ◌*◌, ◌<◌}
use native.Mathlib.Decide.{ℕ_discrete}
use borrow.Author.Tests.{lt-ltb}
use lib.Seq.{get_or-set_same, get_or-set_other}
use Rattle.pages.specs.Pages.{put}
use Rattle.register.specs.Register.{with_record}
use Rattle.register.specs.declared.Record.{Record}
use Rattle.model.specs.History.{Page}
use Rattle.model.specs.InTurn.{joined}
use Rattle.model.specs.Model.{Limits, Model}
use Rattle.model.specs.Layout.{serial_of, slot_number}
use Rattle.model.specs.OnModel.{ticket_in, filled_at}
use Rattle.model.proofs.Lists.Laid.{tab}
use Rattle.model.proofs.Area.Image.{or_blank, slot_cell, page_list, pages_image}
use Rattle.model.proofs.Area.LayoutLaws.{page-open, page-room, page-put, pages-list, list_length, list-blocks}
use Rattle.model.proofs.Model.Sound.{Sound}
use Rattle.model.proofs.Model.Passed.{PutPassed}
use Rattle.model.proofs.Lists.Tab.{length-tab, tab-set}
use Rattle.model.proofs.Calls.Kept.Change.{changed-length, changed-other}
use Rattle.model.proofs.Calls.Kept.Put.{filled_ticket, filled-pages, filled-this, filled-grown}
use Rattle.demands.proofs.Image.{record_image, register_image}
use Rattle.demands.proofs.Blocks.{block-put}

-- PUT's page, by its number.
pub pages-put : (L : Limits) (m : Model) → Sound L m → (t i : ℕ) (x : Page) → PutPassed L m t i x
    → put (pages_image L m) (L.size * slot_number m t i) x ≡ pages_image L (filled_at L m t i x)
pages-put L m S t i x p =
    let m' = filled_at L m t i x in
    let k = filled_ticket L m t i x in
    let e = filled-pages L m t i x in
    let this = filled-this L m t i x S p in
    let lies = page-open m t i p.from p.upto p.slot p.unassigned in
    let others : (u j : ℕ) → (u ≡ t → j ≡ i → ⊥) → slot_cell L.size (ticket_in m u) j ≡ slot_cell L.size (ticket_in m' u) j = λ u j n. elim (ℕ_discrete u t) [
      | yes z ↦ rw (z, this) (ap (or_blank L.size) (sym (get_or-set_other (ticket_in m t).slots i j (Some x) None (n z))))
      | no z ↦ rw (changed-other m t k p.from e u z)
    ] in
    rw (pages-list L m, pages-list L m')
    (block-put L.size (page_list L m) (list-blocks L m S) (slot_number m t i) (rw (list_length L m) (page-room L m S (serial_of m.tickets t i) lies)) x p.whole
    ∙ ap joined
    (page-put m m' (filled-grown L m t i x S p) L S (changed-length m t k p.from e) t i x p.from p.upto p.slot lies (λ u j a b c s n. others u j n)
    (rw this (ap (or_blank L.size) (get_or-set_same (ticket_in m t).slots i (Some x) None p.slot)))))

-- A record written into records by a rule of their index, and into the register.
pub record-put : (n i : ℕ) (g h : ℕ → Record) (r : Record) → i < n → ((j : ℕ) → j < n → j ≢ i → g j ≡ h j) → h i ≡ r → with_record (tab n g) i r ≡ tab n h
unfolding with_record
record-put n i g h r l others here = rw (length-tab n g, lt-ltb i n l) (tab-set n g h i r l others here)

pub register-put : (L : Limits) (m m' : Model) (i : ℕ) (r : Record) → i < L.updates → ((j : ℕ) → j < L.updates → j ≢ i → record_image m j ≡ record_image m' j)
    → record_image m' i ≡ r → with_record (register_image L m) i r ≡ register_image L m'
unfolding register_image
register-put L m m' i r h others here = record-put L.updates i (record_image m) (record_image m') r h others here
