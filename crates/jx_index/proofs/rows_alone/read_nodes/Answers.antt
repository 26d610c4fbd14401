use Rattle.std.proofs.Common.{[], arith, ap, ◌∙◌}
use Rattle.jx_index.specs.inside.Building.{Building}
use Rattle.jx_index.proofs.OnePass.{rows_told, nodes_told}
use Rattle.jx_index.proofs.rows_alone.read_nodes.Goals as goal

pub returns-in_ok-built-in-Accepted-clause-nodes : goal.returns-in_ok-built-in-Accepted-clause-nodes
returns-in_ok-built-in-Accepted-clause-nodes g c =
    let b = c.in_ok-built-in-Accepted in
    nodes_told c.args.text.now c.args.span c.requires.ordered c.requires.within (record { reads = c.grammar_of_tokens.ensures.reads; stays = c.grammar_of_tokens.ensures.stays }) c.args.depth c.in_ok-told.told.verdict c.into_nodes.result.rows.items c.into_nodes.result.after.items
    (omega arith) c.in_ok-told.ensures.verdict c.in-Accepted.is
    (λ low. c.into_nodes.ensures.rows ∙ ap (λ (x : Building). x.rows) (b.ensures _ _ low (c.in_ok-told.ensures.seen c.in-Accepted.is [] c.new-sink.ensures.seen)))
    (λ low. c.into_nodes.ensures.after ∙ ap (λ (x : Building). x.after) (b.ensures _ _ low (c.in_ok-told.ensures.seen c.in-Accepted.is [] c.new-sink.ensures.seen)))

pub returns-in_ok-built-in-Accepted-clause-rows : goal.returns-in_ok-built-in-Accepted-clause-rows
returns-in_ok-built-in-Accepted-clause-rows g c = λ limit tree t.
    let b = c.in_ok-built-in-Accepted in
    rows_told c.args.text.now c.args.span c.requires.ordered c.requires.within (record { reads = c.grammar_of_tokens.ensures.reads; stays = c.grammar_of_tokens.ensures.stays }) limit tree c.into_nodes.result.rows.items (omega arith)
    (λ low. c.into_nodes.ensures.rows ∙ ap (λ (x : Building). x.rows) (b.ensures _ _ low (c.in_ok-told.ensures.seen c.in-Accepted.is [] c.new-sink.ensures.seen))) t
