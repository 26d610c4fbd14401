use Rattle.std.proofs.Common.{ℕ, Option, Vec, sym, subst}
use Rattle.std.specs.Global.{Global}
use Rattle.jx_wire.specs.Frames.{ended_in}
use Rattle.jx_lsp.specs.Session.{Serves}
use Rattle.jx_lsp.proofs.Sessions.{carried, none_served, one_served}
use Rattle.jx_lsp.proofs.serve.answer.Goals as goal

pub returns-in-None : goal.returns-in-None
returns-in-None g c =
    let server = c.args.server.now in
    let a = g.W.Write.contents c.args.writer.now in
    subst (λ (o : Option (Vec ℕ Global)). Serves server (ended_in o) server a a) (sym c.in-None.is) (none_served server a)

pub returns-in-Some : goal.returns-in-Some
returns-in-Some g c =
    let first = c.args.server.now in
    let last = c.answer_to-reply.new.server in
    let reply = c.answer_to-reply.result in
    let a = g.W.Write.contents c.args.writer.now in
    let b = g.W.Write.contents c.tell.new.writer in
    carried c.tell.result c.tell.ensures (λ w. subst (λ (o : Option (Vec ℕ Global)). Serves first (ended_in o) last a b) (sym c.in-Some.is)
    (one_served c.in-Some.body.items first last reply a b c.requires c.answer_to-reply.ensures.turns w))
