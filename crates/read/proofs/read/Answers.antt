-- By where READ is refused, and by what its rows say of the range where it is not.
use Rattle.std.proofs.Common.{refl, sym, length, arith}
use native.Mathlib.Nat.{div-add-mod'}
use lib.Seq.{length-take-le}
use Rattle.versions.specs.Store.{lent}
use Rattle.std.proofs.lemmas.Grind.{common_steps}
use Rattle.read.proofs.Ranges.{out_refused, buffer_refused, out_empty, buffer_empty, out_lost, buffer_lost, out_read, buffer_read, has_room, ranged, opened_area, walked_fit, walks-found, range_readable}
use Rattle.read.proofs.read.Goals as goal

pub returns-in_err-range_refusal : goal.returns-in_err-range_refusal
returns-in_err-range_refusal c =
    let a = c.args in
    let o = sym (rw (c.lengths_in.ensures, c.in_ok-c.was) at c.opened_number.ensures) in
    let q = sym (rw (c.bytes_there.ensures, c.in_err-range_refusal.was) at c.range_refusal.ensures) in
    let f = buffer_refused a.s.now (lent a.areas.now) a.l.0 a.v.0 a.offset.0 a.len a.buffer.now c.in_ok-c.c o _ q in
    let g = out_refused a.s.now (lent a.areas.now) a.l.0 a.v.0 a.offset.0 a.len a.buffer.now c.in_ok-c.c o _ q in
    (grind (arith, common_steps, g), sym f)

pub returns-then-len-eq0 : goal.returns-then-len-eq0
returns-then-len-eq0 c =
    let a = c.args in
    let o = sym (rw (c.lengths_in.ensures, c.in_ok-c.was) at c.opened_number.ensures) in
    let q = sym (rw (c.bytes_there.ensures, c.in_ok-range_refusal.was) at c.range_refusal.ensures) in (
      sym (out_empty a.s.now (lent a.areas.now) a.l.0 a.v.0 a.offset.0 a.len a.buffer.now c.in_ok-c.c o _ q c.if-len-eq0.true),
      sym (buffer_empty a.s.now (lent a.areas.now) a.l.0 a.v.0 a.offset.0 a.len a.buffer.now c.in_ok-c.c o _ q c.if-len-eq0.true),
    )

pub touched-t-requires : goal.touched-t-requires
touched-t-requires c =
    let a = c.args in
    let q = sym (rw (c.bytes_there.ensures, c.in_ok-range_refusal.was) at c.range_refusal.ensures) in
    ranged a.s.now (lent a.areas.now) a.v.0 a.offset.0 a.len (length a.buffer.now) c.in_ok-c.c _ q (omega arith)

pub first_number-requires : goal.first_number-requires
first_number-requires c =
    let a = c.args in
    let q = sym (rw (c.bytes_there.ensures, c.in_ok-range_refusal.was) at c.range_refusal.ensures) in
    let r = ranged a.s.now (lent a.areas.now) a.v.0 a.offset.0 a.len (length a.buffer.now) c.in_ok-c.c _ q (omega arith) in
    rw c.touched-t.ensures (walked_fit a.s.now.size a.offset.0 a.len r)

pub slice_bounds-copy_pages-end : goal.slice_bounds-copy_pages-end
slice_bounds-copy_pages-end c =
    let a = c.args in
    let q = sym (rw (c.bytes_there.ensures, c.in_ok-range_refusal.was) at c.range_refusal.ensures) in
    omega (arith, has_room a.s.now (lent a.areas.now) a.v.0 a.offset.0 a.len (length a.buffer.now) c.in_ok-c.c _ q)

pub returns-in_err-number : goal.returns-in_err-number
returns-in_err-number c =
    let a = c.args in
    let o = sym (rw (c.lengths_in.ensures, c.in_ok-c.was) at c.opened_number.ensures) in
    let q = sym (rw (c.bytes_there.ensures, c.in_ok-range_refusal.was) at c.range_refusal.ensures) in
    let w = sym (rw (c.touched-t.ensures, c.in_err-number.was) at c.first_number.ensures) in
    let g = out_lost a.s.now (lent a.areas.now) a.l.0 a.v.0 a.offset.0 a.len a.buffer.now c.in_ok-c.c o _ q _ w in
    (grind (arith, common_steps, g), sym (buffer_lost a.s.now (lent a.areas.now) a.l.0 a.v.0 a.offset.0 a.len a.buffer.now c.in_ok-c.c o _ q _ w))

pub slice_bounds-copy_pages-end-2 : goal.slice_bounds-copy_pages-end-2
slice_bounds-copy_pages-end-2 c =
    let a = c.args in
    let q = sym (rw (c.bytes_there.ensures, c.in_ok-range_refusal.was) at c.range_refusal.ensures) in
    let h = has_room a.s.now (lent a.areas.now) a.v.0 a.offset.0 a.len (length a.buffer.now) c.in_ok-c.c _ q in
    sym (length-take-le _ a.buffer.now (omega (arith, h)))

pub copy_pages-requires : goal.copy_pages-requires
copy_pages-requires c =
    let a = c.args in
    let o = sym (rw (c.lengths_in.ensures, c.in_ok-c.was) at c.opened_number.ensures) in
    let q = sym (rw (c.bytes_there.ensures, c.in_ok-range_refusal.was) at c.range_refusal.ensures) in
    let h = has_room a.s.now (lent a.areas.now) a.v.0 a.offset.0 a.len (length a.buffer.now) c.in_ok-c.c _ q in
    let r = ranged a.s.now (lent a.areas.now) a.v.0 a.offset.0 a.len (length a.buffer.now) c.in_ok-c.c _ q (omega arith) in
    let w = sym (rw (c.touched-t.ensures, c.in_ok-number.was) at c.first_number.ensures) in
    let f = walks-found a.s.now (lent a.areas.now) a.l.0 a.v.0 a.offset.0 a.len a.buffer.now c.in_ok-c.c o _ q _ w in
    rw (c.touched-t.ensures, length-take-le a.len a.buffer.now h)
    (range_readable a.s.now.size a.offset.0 a.len r a.s.now (lent a.areas.now) c.in_ok-c.c c.in_ok-number.number refl
    (opened_area a.s.now (lent a.areas.now) a.l.0 a.v.0 c.in_ok-c.c o) f.0 f.1)

pub returns : goal.returns
returns c =
    let a = c.args in
    let o = sym (rw (c.lengths_in.ensures, c.in_ok-c.was) at c.opened_number.ensures) in
    let q = sym (rw (c.bytes_there.ensures, c.in_ok-range_refusal.was) at c.range_refusal.ensures) in
    let h = has_room a.s.now (lent a.areas.now) a.v.0 a.offset.0 a.len (length a.buffer.now) c.in_ok-c.c _ q in
    let w = sym (rw (c.touched-t.ensures, c.in_ok-number.was) at c.first_number.ensures) in
    let filled = rw (c.touched-t.ensures, length-take-le a.len a.buffer.now h, div-add-mod' a.offset.0 a.s.now.size) at c.copy_pages.ensures in (
      sym (out_read a.s.now (lent a.areas.now) a.l.0 a.v.0 a.offset.0 a.len a.buffer.now c.in_ok-c.c o _ q _ w),
      rw filled (sym (buffer_read a.s.now (lent a.areas.now) a.l.0 a.v.0 a.offset.0 a.len a.buffer.now c.in_ok-c.c o _ q _ w)),
    )
