use Rattle.std.proofs.Common.{◌-◌, ◌^◌, ap, subst, ◌∙◌, sym, arith}
use Rattle.jx_summary.specs.declared.span.Span.{Span}
use Rattle.jx_run.specs.Text.{IsText}
use Rattle.jx_index.proofs.Readings.{accepted_tree, built_here, marks_small}
use Rattle.jx_index.proofs.indexed.Indexed.build.Goals as goal

pub nodes_from_marks-requires : goal.nodes_from_marks-requires
nodes_from_marks-requires c =
    marks_small c.args.text.now c.args.started.now c.requires.reading c.marks.result.now (2 ^ 64 - 1) c.marks.ensures.marks (let w = c.requires.within in omega arith)

pub of_nodes-requires : goal.of_nodes-requires
of_nodes-requires c =
    let t = accepted_tree c.args.text.now c.args.started.now c.requires.reading c.requires.accepted in
    let b = built_here c.args.text.now c.args.started.now c.requires.reading (record { reads = c.grammar_of_tokens.ensures.reads; stays = c.grammar_of_tokens.ensures.stays }) c.marks.result.now c.ends.result.now c.span-span.result.end c.args.started.now.depth t.tree
    c.marks.ensures.marks c.ends.ensures.ends (ap (λ (s : Span). s.end) c.span-span.ensures.span) t.is in
    record {
      limit = c.args.started.now.depth;
      tree = t.tree;
      is_text = subst (λ (s : Span). IsText c.args.text.now s.start s.end c.args.started.now.depth t.tree) (sym c.span-span.ensures.span) t.is;
      rows_are = c.in_ok-nodes.ensures.rows ∙ b.rows_are;
      after_are = c.in_ok-nodes.ensures.after ∙ b.after_are;
    }

pub returns-clause-rows : goal.returns-clause-rows
returns-clause-rows c = λ limit tree t.
    c.in_ok-index.ensures.rows
    ∙ c.in_ok-nodes.ensures.rows
    ∙ (built_here c.args.text.now c.args.started.now c.requires.reading (record { reads = c.grammar_of_tokens.ensures.reads; stays = c.grammar_of_tokens.ensures.stays }) c.marks.result.now c.ends.result.now c.span-span.result.end limit tree
    c.marks.ensures.marks c.ends.ensures.ends (ap (λ (s : Span). s.end) c.span-span.ensures.span) t).rows_are
