-- `exports::pit_view` meets its contract: the part that its numbers tell is VIEW's. Assumes nothing.
use Rattle.std.proofs.Common.{◌≡◌, ap, ◌∙◌}
use Rattle.pages.specs.Pages.{part}
use Rattle.versions.specs.Store.{areas_of}
use Rattle.view.specs.View.{view_at}
use Rattle.replies.specs.Replies.{view_reply}
use Rattle.replies.specs.declared.ViewReply.{ViewReply}
use Rattle.replies.proofs.View.{view-part}
use Rattle.exports.proofs.pit_view.Goals as goal

pub returns : goal.returns
returns c =
    let a = areas_of c.args.pages.now c.args.nodes.now c.args.register.now in
    let reply : c.view_reply.result ≡ view_reply c.args.s.size (view_at c.args.s a c.args.line c.args.version c.args.page) =
    c.view_reply.ensures ∙ ap (view_reply c.args.s.size) c.view_at-out.ensures in (
      reply,
      ap (λ (r : ViewReply). part c.args.pages.now r.begin r.length) reply
          ∙ view-part c.args.s a c.args.line c.args.version c.args.page,
    )
