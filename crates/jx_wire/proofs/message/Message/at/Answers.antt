use Rattle.std.proofs.Common.{List, ℕ, ap, ◌∙◌, sym}
use Rattle.std.specs.Result.{result_ok}
use Rattle.jx_index.specs.Leads.{leads}
use Rattle.jx_index.specs.Pointers.{tokens}
use Rattle.jx_wire.proofs.Strings.{text_there}
use Rattle.jx_wire.proofs.message.Message.at.Goals as goal

pub returns-clause-at : goal.returns-clause-at
returns-clause-at c = λ p.
    let body = c.args.self.now in
    c.value.ensures.at c.args.pointer.now (λ tree is.
    let led = c.find.ensures.leads 64 tree (text_there c.self.inside.index body tree c.self.view_is c.self.invariant.0 is)
    ∙ ap (λ (l : List ℕ). leads l tree (tokens c.in-Ok.pointer)) c.self.view_is ∙ ap (λ (q : List ℕ). leads body tree (tokens q)) c.in-Ok.ensures.same in
    sym (c.ok-node.ensures.value ∙ ap result_ok led))
