use Rattle.std.proofs.Common.{[], ap, ◌∙◌, length, arith}
use Rattle.std.specs.List.{filter}
use Rattle.jx_run.specs.Tree.{span}
use Rattle.jx_index.proofs.OnePass.{all_low, is_built}
use Rattle.jx_index.proofs.Readings.{tree_of}
use Rattle.jx_around.specs.Around.{is_around}
use Rattle.jx_around.specs.inside.Collecting.{collecting}
use Rattle.jx_around.proofs.Collects.{collected_all}
use Rattle.jx_around.proofs.reading.read_from.Goals as goal

pub returns-in_ok-collected-in-Accepted-clause-accepted : goal.returns-in_ok-collected-in-Accepted-clause-accepted
returns-in_ok-collected-in-Accepted-clause-accepted g c =
    let text = c.args.text.now in
    let all = span c.args.start (length text) in
    let at = g.O.Offset.offset in
    let done = c.in_ok-collected-in-Accepted in
    let t = tree_of c.in_ok-told.told.verdict c.in_ok-told.ensures.verdict c.in-Accepted.is in
    let built =
    is_built text all c.requires.within (omega arith) (record { reads = c.grammar_of_tokens.ensures.reads; stays = c.grammar_of_tokens.ensures.stays }) c.args.depth t.tree t.is in
    let follows =
    done.ensures _ _ (all_low text all c.requires.within (omega arith) (omega arith)) (c.in_ok-told.ensures.seen c.in-Accepted.is [] c.new-sink.ensures.seen) in
    record {
      tree = t.tree;
      is_text = t.is;
      around_are = c.into_ended.ensures ∙ collected_all at (collecting done.collected) _ follows built.none_open ∙ ap (filter (is_around at)) built.rows_are;
    }
