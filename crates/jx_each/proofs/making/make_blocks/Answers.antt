use Rattle.std.specs.Prelude.{slice_range}
use Rattle.std.proofs.lemmas.Result.{IfOk-weaker}
use Rattle.jx_each.proofs.Walked.{elements_on}
use Rattle.jx_each.proofs.making.make_blocks.Goals as goal

pub returns-then-is_long-clause-made : goal.returns-then-is_long-clause-made
returns-then-is_long-clause-made c =
    let here = c.is_in_elements.ensures c.if-is_in_elements.true in
    IfOk-weaker c.make_elements.result _ _
    (λ deep made aim. elements_on aim c.args.stand deep.place deep.height c.args.lines.now.items c.args.part.now.items c.make_elements.new.lines.items c.make_elements.new.part.items (slice_range c.args.bytes.now c.args.at deep.end) here.0 here.1 (made aim))
    c.make_elements.ensures.made

pub returns-else-is_in_elements-clause-made : goal.returns-else-is_in_elements-clause-made
returns-else-is_in_elements-clause-made c =
    IfOk-weaker c.push_deep.result _ _ (λ deep copied aim. copied.runs aim c.args.stand.stage c.args.lines.now.items) c.push_deep.ensures.copied
