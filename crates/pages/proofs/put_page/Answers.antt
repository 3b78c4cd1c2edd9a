-- `pages::put_page` is `put_at` at the page's place.
use Rattle.std.proofs.Common.{◌-◌, ◌^◌, ◌<◌, ◌∙◌, length, arith}
use Rattle.pages.proofs.Capped.{fits-capped, put-capped}
use Rattle.pages.proofs.put_page.Goals as goal

pub returns : goal.returns
returns c =
    let pages = c.args.pages.now in
    let short : length pages < 2 ^ 64 - 1 = omega arith in
    let place = c.begins.ensures in
    let put = c.put_at.ensures in
    (put.0 ∙ fits-capped pages _ _ _ short place _, put.1 ∙ put-capped pages _ _ _ short place _)
