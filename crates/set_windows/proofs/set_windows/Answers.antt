-- The areas' lengths refuse, or the text does, or it is read.
use Rattle.std.proofs.Common.{◌≡◌, ◌∙◌, true, false, Ok, Err, arith}
use Rattle.std.proofs.lemmas.Grind.{common_steps}
use Rattle.table.specs.Refused.{number, numbered}
use Rattle.table.specs.Table.{holds}
use Rattle.versions.specs.Store.{lent, areas_differ}
use Rattle.windows.specs.Listed.{listed_of}
use Rattle.set_windows.proofs.Read.{areas_refuse, text_refuses, text_read}
use Rattle.set_windows.proofs.set_windows.Goals as goal

pub returns-then-areas_differ : goal.returns-then-areas_differ
returns-then-areas_differ c =
    let a = lent c.args.areas.now in
    let d : holds (areas_differ c.args.s.now a) ≡ true = grind (arith, common_steps) in
    areas_refuse c.args.s.now c.args.w.now a c.args.text.now d

pub returns-in_err-w : goal.returns-in_err-w
returns-in_err-w c =
    let a = lent c.args.areas.now in
    let k = number c.in_err-w.field-0.0 in
    let d : holds (areas_differ c.args.s.now a) ≡ false = grind (arith, common_steps) in
    let e : listed_of c.args.text.now ≡ Err k = grind (arith, common_steps) in
    let answer : numbered c.from_residual.result ≡ Err k = grind (arith, common_steps) in
    let out = text_refuses c.args.s.now c.args.w.now a c.args.text.now k d e in
    (answer ∙ out.0, out.1)

pub returns : goal.returns
returns c =
    let a = lent c.args.areas.now in
    let d : holds (areas_differ c.args.s.now a) ≡ false = grind (arith, common_steps) in
    let e : listed_of c.args.text.now ≡ Ok c.in_ok-w.field-0 = grind (arith, common_steps) in
    text_read c.args.s.now c.args.w.now a c.args.text.now c.in_ok-w.field-0 d e
