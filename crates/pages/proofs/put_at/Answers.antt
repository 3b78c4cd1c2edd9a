-- A refusal leaves the area, and the part that was lent to the copier comes back as `put` says, in `pages::put_at`.
use Rattle.std.proofs.Common.{arith}
use Rattle.pages.proofs.PutLaws.{put-past, put_back}
use Rattle.pages.proofs.put_at.Goals as goal

pub returns-then-at-area : goal.returns-then-at-area
returns-then-at-area c = put-past _ _ _ (omega arith)

pub returns : goal.returns
returns c = put_back c.args.area.now c.args.at c.args.bytes.now _ (omega arith) c.copy_in.ensures
