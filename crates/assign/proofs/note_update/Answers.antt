-- The three records are written as the definition has it, of numbers that are not capped where there is room.
use Rattle.std.proofs.Common.{rules, ℕ, zero, suc, pred, ◌+◌, ◌-◌, ◌^◌, ◌<◌, ◌≡◌, min, max, List, length, get_or, slice_set, ap, ◌∙◌, add-one, arith, lt-ltb, length-set}
use Rattle.tree.specs.Tree.{nth, count, count_of, root_height}
use Rattle.lines.specs.Lines.{number_of, with_entry}
use Rattle.lines.specs.declared.Branch.{Branch}
use Rattle.lines.specs.declared.Entries.{Entries}
use Rattle.register.specs.Register.{no_record, with_record, with_update_fields, with_entries}
use Rattle.register.specs.declared.Record.{Record}
use Rattle.register.specs.declared.Part.{Part}
use Rattle.register.proofs.Records.{nth-pred}
use Rattle.versions.specs.Store.{line_in}
use Rattle.versions.specs.declared.Store.{Store}
use Rattle.assign.specs.Assign.{update_at, size_after, number_by, part_by, Roomy, with_update_of, with_entry_of, with_assigned}
use Rattle.assign.specs.NewUpdate.{Known, Fits}
use Rattle.assign.specs.declared.NewUpdate.{NewUpdate}
use Rattle.assign.proofs.note_update.Goals as goal

-- Where the next version has a number in 64 bits, that is its number.
number-next : (l : ℕ) (b : Branch) → b.assigned.0 < 2 ^ 64 - 1 → number_by l b ≡ number_of l (suc b.assigned.0)
number-next l b h = let e : min (b.assigned.0 + 1) (2 ^ 64 - 1) ≡ suc b.assigned.0 = omega arith in ap (number_of l) e

-- An update has more nodes than its root's height, so that the sum of its first place and the height has 64 bits where there is room for its nodes.
count-above : (f l h : ℕ) → h < count f l h
unfolding count
count-above f l zero = omega arith
count-above f l (suc h) = omega (arith, count-above f l h)

top-fits : (s : Store) (l f n : ℕ) → let u = update_at (line_in s l).blob f n in
    s.places + count_of u < 2 ^ 64 → min (s.places + root_height u.size) (2 ^ 64 - 1) ≡ s.places + root_height u.size
top-fits s l f n fits =
    let u = update_at (line_in s l).blob f n in omega (arith, count-above u.f u.last (root_height u.size))

part-fits : (s : Store) (l f n : ℕ) → let b = line_in s l in
    let u = update_at b.blob f n in
    let end = min (f + n) (2 ^ 64 - 1) in
    Roomy s l f n → s.updates < 2 ^ 64 → s.places + count_of u < 2 ^ 64
    → part_by u (number_by l b) f (end - 1) (max b.blob end) (min (s.places + root_height u.size) (2 ^ 64 - 1))
    ≡ part_by u (number_of l (suc b.assigned.0)) f (f + n - 1) (size_after b.blob f n) (s.places + root_height u.size)
part-fits s l f n room updates places =
    let end : min (f + n) (2 ^ 64 - 1) ≡ f + n = omega (arith, room.inside) in
    rw (number-next l (line_in s l) (omega (arith, room.version, updates)), top-fits s l f n places, end)

-- Three records are written, one after the other, each over what that left.
three :
    (rs : List Record) (i j k : ℕ) (a : Record) (g h : Record → Record) → i < length rs → j < length rs → k < length rs
    → let ps = slice_set rs i a in
    let qs = slice_set ps j (g (get_or ps j no_record)) in
    let ps' = with_record rs i a in
    let qs' = with_record ps' j (g (get_or ps' j no_record)) in
    slice_set qs k (h (get_or qs k no_record)) ≡ with_record qs' k (h (get_or qs' k no_record))
unfolding with_record
three rs i j k a g h p q r =
    let ps = slice_set rs i a in
    let b = g (get_or ps j no_record) in
    rw (lt-ltb i (length rs) p, length-set rs i a, lt-ltb j (length rs) q, length-set ps j b, length-set rs i a, lt-ltb k (length rs) r)

noted :
    (s : Store) (rs : List Record) (u : NewUpdate) (i : ℕ) (b : Branch) (q : Record) (e : Entries)
    → Known s rs u → Fits s u → s.updates < 2 ^ 64 → b ≡ line_in s u.line.0 → i ≡ pred u.ticket.0
    → let ps = slice_set rs i (with_update_of (get_or rs i no_record) (s.assigned + 1)) in
    let qs = slice_set ps s.assigned q in
    q ≡ with_update_fields (get_or ps s.assigned no_record) u.ticket u.part
    → e ≡ with_entry (get_or qs b.assigned.0 no_record).entries u.line.0 (s.assigned + 1)
    → slice_set qs b.assigned.0 (with_entries (get_or qs b.assigned.0 no_record) e)
    ≡ with_assigned s rs (nth no_record rs u.ticket.0) u.line.0 u.ticket.0 u.part.f.0
noted s rs u i b q e known fits updates be ie qe ee =
    let t = u.ticket.0 in
    let l = u.line.0 in
    let f = u.part.f.0 in
    let v = (line_in s l).assigned.0 in
    let room = fits.room in
    let within : pred t < length rs = omega (arith, known.records, known.counted, known.there) in
    let same = ap (λ (x : NewUpdate). x.part.count) fits.new in
    let places : s.places + count_of (update_at (line_in s l).blob f u.n) < 2 ^ 64 = omega (arith, fits.places, same) in
    let part = rw known.pages at (ap (λ (x : NewUpdate). x.part) fits.new ∙ part-fits s l f u.n room updates places) in
    let ps = with_record rs (pred t) (with_update_of (nth no_record rs t) (suc s.assigned)) in
    let left : Part → List Record = λ (p : Part).
    let qs = with_record ps s.assigned (with_update_fields (get_or ps s.assigned no_record) u.ticket p) in with_record qs v (with_entry_of (get_or qs v no_record) l (suc s.assigned)) in
    let wrote = three rs (pred t) s.assigned v (with_update_of (nth no_record rs t) (suc s.assigned)) (λ (r : Record). with_update_fields r u.ticket u.part)
    (λ (r : Record). with_entry_of r l (suc s.assigned)) within (omega (arith, known.records, room.update)) (omega (arith, known.records, room.version)) in
    rw (ee, qe, be, ie, nth-pred rs t no_record known.counted within, add-one) (wrote ∙ ap left part)

pub returns : goal.returns
returns c =
    noted c.args.s.now c.args.register.now c.args.u _ _ _ _ c.requires.known c.requires.fits (search rules) c.line_state.ensures c.record_index.ensures c.note_part.ensures c.with_entry-r.ensures
