use Rattle.std.proofs.Common.{[], sym, ◌∙◌}
use Rattle.std.proofs.lemmas.Result.{IfOk-weaker}
use Rattle.jx_index.specs.inside.Found.{finding}
use Rattle.jx_index.proofs.Feeding.{no_text}
use Rattle.jx_index.proofs.seeker.Seeker.tell.Goals as goal

pub returns-clause-noted : goal.returns-clause-noted
returns-clause-noted c =
    let a = c.args in
    IfOk-weaker c.mark.result _ _
    (λ x h trie ready text named.
    h trie ready ∙ no_text [] text a.edges.now a.kind a.at a.end (finding a.self.now.state) (sym c.is_name_next.ensures ∙ c.if-is_name_next.false))
    c.mark.ensures.noted
