-- Two words of the part give the place.
use Rattle.std.proofs.Common.{◌≡◌, ◌+◌, ◌-◌, ◌%◌, ◌^◌, ◌<◌, sym, ap, ◌∙◌, inl, inr, arith, Some}
use Rattle.tree.specs.Place.{halvings}
use Rattle.tree.specs.Contract.{height_in}
use Rattle.tree.proofs.Halved.{halved-small}
use Rattle.tree.proofs.Word.{height-in-low}
use Rattle.descent.specs.Places.{first_over}
use Rattle.descent.proofs.Places.{place_other, place-none, place-there, place-sum, part-zero, part-most}
use Rattle.descent.proofs.place_of.Goals.{then-q-c-via-then-q-c, then-q-c-via-else-q-c+then-not-has_node}
use Rattle.descent.proofs.place_of.Goals as goal

pub returns-then-c-eq0 : goal.returns-then-c-eq0
returns-then-c-eq0 c = elim c.then-c-eq0.either [
  | inl z ↦ rw z (sym (part-zero c.args.q c.args.at.page (height_in c.args.at.span)))
  | inr o ↦ rw o.1 (sym (part-most c.args.q c.args.at.page (height_in c.args.at.span)))
]

pub returns-then-q-c : goal.returns-then-q-c
returns-then-q-c c = elim c.then-q-c.branch [
  | then-q-c-via-then-q-c w ↦ place_other _ _ _ _ w.if-q-c.true
  | then-q-c-via-else-q-c+then-not-has_node w ↦ place-none _ _ _ _ (sym w.has_node.ensures ∙ w.if-not-has_node.true)
]

pub returns : goal.returns
returns c =
    let q = c.args.q in
    let l = c.args.at in
    let o = l.carries in
    let h = height_in l.span in
    let small : l.halved < 2 ^ 64 = omega (arith, o.inside, o.halvings-of, halved-small l.first) in
    let place : ((q.top + l.carried) % 2 ^ 64 + (2 ^ 64 - c.min.result)) % 2 ^ 64 ≡ (q.top + (2 ^ 64 - h) + (halvings (first_over l.page h) - q.past)) % 2 ^ 64 =
    rw (c.min.ensures, ← o.over, ← o.halvings-of) (place-sum q.top q.past l.halved h l.carried (height-in-low l.span) small (rw o.halvings-of o.less-height)) in
    ap Some place ∙ place-there q c.args.c l.page h (omega (arith, c.if-c-eq0.false)) (omega (arith, c.if-c-eq18446744073709551615.false)) c.if-q-c.false (sym c.has_node.ensures ∙ c.if-not-has_node.false)
