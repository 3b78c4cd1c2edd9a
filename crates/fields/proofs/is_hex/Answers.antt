-- An even number of digits, or an odd one.
use Rattle.std.proofs.Common.{rules, ◌∙◌}
use Rattle.std.proofs.lemmas.Iterator.{YieldsList-from_slice}
use Rattle.std.proofs.lemmas.Iterator.Search.{all_from_yields_List}
use borrow.Author.Tests.{ne_eqb}
use Rattle.fields.proofs.Hex.{digit, hex-even, hex-odd}
use Rattle.fields.proofs.is_hex.Goals as goal

pub returns-then-f-eq0 : goal.returns-then-f-eq0
returns-then-f-eq0 c =
    all_from_yields_List digit _ _ _ c.all.ensures.ran (YieldsList-from_slice c.args.f.now c.iter.ensures.rest) (λ x b q k. search rules)
    ∙ hex-even c.args.f.now c.if-f-eq0.true

pub returns-else-f-eq0 : goal.returns-else-f-eq0
returns-else-f-eq0 c = rw (ne_eqb _ _ c.if-f-eq0.false) (hex-odd c.args.f.now c.if-f-eq0.false)
