-- The rows passed leave room for the update.
use Rattle.std.proofs.Common.{ℕ, ◌+◌, ◌-◌, ◌^◌, ◌<◌, ◌≡◌, suc, min, List, Result, Ok, Err, sym, ◌∙◌, refl, rules, arith}
use Rattle.tree.specs.Tree.{nth, count_of}
use Rattle.register.specs.Register.{no_record}
use Rattle.register.specs.declared.Record.{Record}
use Rattle.table.specs.Table.{unless}
use Rattle.table.specs.Refused.{number, numbered}
use Rattle.table.proofs.Refused.{refused_by, stays_by}
use Rattle.versions.specs.Store.{Areas, areas_of, lengths_of, record_of, line_in}
use Rattle.versions.specs.declared.Store.{Store}
use Rattle.versions.specs.declared.Lengths.{Lengths}
use Rattle.assign.specs.Assign.{update_at, size_after, refusal_by, assign_refusal, assign_number, assigned, with_update, with_assigned, assign_register}
use Rattle.assign.specs.NewUpdate.{new_update, Fits, Known}
use Rattle.assign.specs.declared.Assigned.{Assigned}
use Rattle.assign.specs.declared.NewUpdate.{NewUpdate}
use Rattle.assign.proofs.Passed.{assign-passed, assign-ticket}
use Rattle.assign.proofs.write.Goals as goal

module _ (s : Store) (a : Areas) (l t f : ℕ) (g : Lengths) (r : Record) (u : NewUpdate) (ge : g ≡ lengths_of a) (re : r ≡ record_of a t) (ue : u ≡ new_update s l t f r.n) where
  -- The number found of the update is that of the rows.
  same-number : (k : ℕ) → k ≡ refusal_by s g r u.line.0 u.ticket.0 u.part.f.0 u.part.count → k ≡ assign_number s a l t f
  unfolding assign_refusal
  same-number k e = rw (e, ue, ge, re)

  passed : 0 ≡ refusal_by s g r u.line.0 u.ticket.0 u.part.f.0 u.part.count → assign_number s a l t f ≡ 0
  passed e = sym (same-number 0 e)

  known : 0 ≡ refusal_by s g r u.line.0 u.ticket.0 u.part.f.0 u.part.count → Known s a.register u
  known e =
      let z = passed e in
      let p = assign-ticket s (lengths_of a) (record_of a t) l t f z in
      rw (ue, re) (record { records = p.0; counted = p.1; there = p.2; pages = refl })

  fits : 0 ≡ refusal_by s g r u.line.0 u.ticket.0 u.part.f.0 u.part.count → s.places + u.part.count < 2 ^ 64 → Fits s u
  fits e places =
      let z = passed e in
      rw (ue, re) (record { new = refl; room = assign-passed s (lengths_of a) (record_of a t) l t f z; places = rw (ue, re) at places })

  done : (x : Assigned) (after : Store) (left : List Record) → 0 ≡ refusal_by s g r u.line.0 u.ticket.0 u.part.f.0 u.part.count
      → x ≡ record { version = record { 0 = suc (line_in s u.line.0).assigned.0 }; nodes = u.part.count }
      → after ≡ with_update s u.line.0 u.part.count u.part.size
      → left ≡ with_assigned s a.register (nth no_record a.register u.ticket.0) u.line.0 u.ticket.0 u.part.f.0
      → let b = line_in s l in
      let n = (record_of a t).n in
      let k = assign_number s a l t f in
      let count = count_of (update_at b.blob f n) in
      (◌≡◌ {A = Result Assigned ℕ} (Ok x) (assigned k (suc b.assigned.0) count))
      × (after ≡ unless k s (with_update s l count (size_after b.blob f n)))
      × (left ≡ assign_register s a l t f)
  unfolding unless
  done x after left e xe se le =
      let z = passed e in
      let room = assign-passed s (lengths_of a) (record_of a t) l t f z in
      let end : min (f + (record_of a t).n) (2 ^ 64 - 1) ≡ f + (record_of a t).n = omega (arith, room.inside) in
      (rw (z, xe, ue, re), rw (z, se, ue, re, end), rw (z, le, ue))

pub returns-in_err-assign_refusal : goal.returns-in_err-assign_refusal
returns-in_err-assign_refusal c =
    let s = c.args.s.now in
    let a = areas_of c.args.pages.now c.args.nodes.now c.args.register.now in
    let e = c.in_err-assign_refusal.field-0.0 in
    let is = same-number s a c.args.l.0 c.args.t.0 c.args.f.0 _ _ _ c.lengths_of-g.ensures c.ticket_record-r.ensures c.new_update-u.ensures _ c.in_err-assign_refusal.ensures.refused in
    let same : ◌≡◌ {A = Result Assigned ℕ} (numbered c.from_residual.result) (Err (number e)) = search rules in
    (same ∙ sym (refused_by _ e _ is), sym (stays_by _ e _ _ is), sym (stays_by _ e _ _ is))

pub note_update-requires-clause-known : goal.note_update-requires-clause-known
note_update-requires-clause-known c =
    let a = areas_of c.args.pages.now c.args.nodes.now c.args.register.now in
    let g = c.lengths_of-g.ensures in
    let r = c.ticket_record-r.ensures in
    let u = c.new_update-u.ensures in
    known c.args.s.now a c.args.l.0 c.args.t.0 c.args.f.0 _ _ _ g r u c.in_ok-assign_refusal.ensures.refused

pub note_update-requires-clause-fits : goal.note_update-requires-clause-fits
note_update-requires-clause-fits c =
    let a = areas_of c.args.pages.now c.args.nodes.now c.args.register.now in
    let g = c.lengths_of-g.ensures in
    let r = c.ticket_record-r.ensures in
    let u = c.new_update-u.ensures in
    fits c.args.s.now a c.args.l.0 c.args.t.0 c.args.f.0 _ _ _ g r u c.in_ok-assign_refusal.ensures.refused (c.in_ok-assign_refusal.ensures.accepted refl)

pub add_update-requires : goal.add_update-requires
add_update-requires c =
    let a = areas_of c.args.pages.now c.args.nodes.now c.args.register.now in
    let g = c.lengths_of-g.ensures in
    let r = c.ticket_record-r.ensures in
    let u = c.new_update-u.ensures in
    fits c.args.s.now a c.args.l.0 c.args.t.0 c.args.f.0 _ _ _ g r u c.in_ok-assign_refusal.ensures.refused (c.in_ok-assign_refusal.ensures.accepted refl)

pub returns : goal.returns
returns c =
    let a = areas_of c.args.pages.now c.args.nodes.now c.args.register.now in
    let g = c.lengths_of-g.ensures in
    let r = c.ticket_record-r.ensures in
    let u = c.new_update-u.ensures in
    done c.args.s.now a c.args.l.0 c.args.t.0 c.args.f.0 _ _ _ g r u _ _ _ c.in_ok-assign_refusal.ensures.refused c.add_update.ensures.1 c.add_update.ensures.0 c.note_update.ensures
