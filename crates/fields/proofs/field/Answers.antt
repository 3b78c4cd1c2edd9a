-- The part at place k is field k.
use Rattle.std.proofs.Common.{rules, refl, ap, ◌∙◌}
use Rattle.std.proofs.lemmas.Iterator.Consumers.{nth_from_yields_List}
use Rattle.std.proofs.lemmas.Iterator.Splits.{YieldsList-from_slice_split}
use lib.Dec.{eqb}
use Rattle.fields.proofs.Fields.{part-field}
use Rattle.fields.proofs.field.Goals as goal

pub returns : goal.returns
returns c =
    let e = c.split.ensures in
    ap (λ x. x.now) c.unwrap_or.ensures
    ∙ part-field c.args.line.now c.args.k c.nth.result _
    (nth_from_yields_List _ _ _ c.nth.ensures.ran (YieldsList-from_slice_split _ (λ b. eqb b 44) c.args.line.now e.rest e.done e.closure (λ x b q k. search rules)))
    refl
