-- The parts at the commas are the fields.
use Rattle.std.proofs.Common.{ap, ◌∙◌, length, rules}
use Rattle.std.proofs.lemmas.Iterator.Consumers.{count_from_yields_List}
use Rattle.std.proofs.lemmas.Iterator.Splits.{YieldsList-from_slice_split}
use lib.Dec.{eqb}
use Rattle.fields.proofs.Fields.{parts-fields}
use Rattle.fields.proofs.field_count.Goals as goal

pub returns : goal.returns
returns c =
    let e = c.split.ensures in
    let line = c.args.line.now in
    count_from_yields_List _ _ c.count.ensures.ran (YieldsList-from_slice_split _ (λ b. eqb b 44) line e.rest e.done e.closure (λ x b q k. search rules))
    ∙ ap length (parts-fields line)
