-- What `pages::view_page` hands out is that of `part_at` at the page's place.
use Rattle.std.proofs.Common.{◌-◌, ◌^◌, ◌<◌, ◌∙◌, length, arith}
use Rattle.pages.proofs.Capped.{part-capped}
use Rattle.pages.proofs.view_page.Goals as goal

pub returns : goal.returns
returns c =
    let pages = c.args.pages.now in
    let short : length pages < 2 ^ 64 - 1 = omega arith in
    c.part_at.ensures ∙ part-capped pages _ _ _ short c.begins.ensures _
