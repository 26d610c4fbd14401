use Rattle.std.proofs.Common.{◌∙◌, arith}
use Rattle.jx_index.proofs.OnePass.{run_nodes, run_rows}
use Rattle.jx_index.proofs.indexed.Indexed.of_run.Goals as goal

pub of_nodes-requires : goal.of_nodes-requires
of_nodes-requires c =
    run_nodes c.args.text.now c.args.run.now c.requires.ordered c.requires.within (omega arith) c.requires.of c.span-span.result c.marks.result c.ends.result c.in_ok-nodes.nodes.rows.items c.in_ok-nodes.nodes.after.items
    (record { span_is = c.span-span.ensures.span; marks_are = c.marks.ensures.all; ends_are = c.ends.ensures.all; rows_are = c.in_ok-nodes.ensures.rows; after_are = c.in_ok-nodes.ensures.after }) (record { reads = c.grammar_of_tokens.ensures.reads; stays = c.grammar_of_tokens.ensures.stays })
    c.requires.accepted

pub returns-clause-rows : goal.returns-clause-rows
returns-clause-rows c = λ limit tree t.
    c.in_ok-index.ensures.rows
    ∙ run_rows c.args.text.now c.args.run.now c.requires.ordered c.requires.within (omega arith) c.requires.of c.span-span.result c.marks.result c.ends.result c.in_ok-nodes.nodes.rows.items c.in_ok-nodes.nodes.after.items
    (record { span_is = c.span-span.ensures.span; marks_are = c.marks.ensures.all; ends_are = c.ends.ensures.all; rows_are = c.in_ok-nodes.ensures.rows; after_are = c.in_ok-nodes.ensures.after }) (record { reads = c.grammar_of_tokens.ensures.reads; stays = c.grammar_of_tokens.ensures.stays }) limit tree t
