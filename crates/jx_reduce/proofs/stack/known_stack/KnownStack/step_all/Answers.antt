use Rattle.std.proofs.Common.{take, arith, ap, ◌∙◌}
use Rattle.std.proofs.lemmas.List.{take_more, take_all}
use Rattle.jx_reduce.specs.Read.{read}
use Rattle.jx_reduce.specs.KnownStack.{Known}
use Rattle.jx_reduce.proofs.KnownMoves.{part_fault, part_more, on_err}
use Rattle.jx_reduce.proofs.stack.known_stack.KnownStack.step_all.Goals as goal

pub loop-mark-preserved : goal.loop-mark-preserved
loop-mark-preserved c =
    record {
      depth = c.in_ok-step.ensures.depth ∙ c.loop-mark.invariant.depth;
      reads =
          part_more c.args.self.now.depth c.loop-mark.self.depth (take c.loop-mark.mark-index c.args.marks.now) _ _ c.args.self.now.reading c.loop-mark.self.reading _
          c.loop-mark.invariant.depth (take_more c.args.marks.now c.loop-mark.mark-index _ c.loop-mark-test.true) c.loop-mark.invariant.reads c.in_ok-step.ensures.reads;
    }

pub returns-then-is_done-clause-reads : goal.returns-then-is_done-clause-reads
returns-then-is_done-clause-reads c =
    part_fault c.args.self.now.depth c.loop-mark.mark-index c.args.marks.now c.args.self.now.reading c.loop-mark.self.reading
    c.loop-mark.invariant.reads (c.is_done.ensures.0 c.if-is_done.true)

pub returns-after-loop-mark-clause-reads : goal.returns-after-loop-mark-clause-reads
returns-after-loop-mark-clause-reads c =
    c.loop-mark.invariant.reads
    ∙ ap (λ xs. read c.args.self.now.depth xs c.args.self.now.reading) (take_all c.loop-mark.mark-index c.args.marks.now c.loop-mark-test.false)

pub returns-in_err-step-clause-err : goal.returns-in_err-step-clause-err
returns-in_err-step-clause-err c =
    on_err c.from_residual.result _
    (record {
      count = c.loop-mark.mark-index;
      within = omega arith;
      reading = ap (λ (k : Known). k.reading) c.in_err-step.ensures.err ∙ c.loop-mark.invariant.reads;
    })
