-- What `pages::part_at` hands out, by the laws of `part`.
use Rattle.std.proofs.Common.{arith}
use Rattle.pages.proofs.PartLaws.{part-past, part-within}
use Rattle.pages.proofs.part_at.Goals as goal

pub returns-then-at-area : goal.returns-then-at-area
returns-then-at-area c = part-past _ _ _ (omega arith)

pub returns : goal.returns
returns c = part-within _ _ _ (omega arith)
