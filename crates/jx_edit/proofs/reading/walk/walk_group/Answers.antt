use Rattle.std.proofs.Common.{arith, ◌∙◌, ◌+◌, ◌*◌, ap, sym, subst, refl}
use Rattle.jx_run.specs.Reading.{stopped, too_deep}
use Rattle.jx_edit.specs.inside.Chunks.{ChunkValue}
use Rattle.jx_edit.specs.inside.Links.{IsReached}
use Rattle.jx_edit.proofs.Links.{offset_more, offset_fits, still_fits, judged_at, walked_all}
use Rattle.jx_edit.proofs.reading.walk.walk_group.Goals as goal

pub overflow_add-next : goal.overflow_add-next
overflow_add-next c =
    omega (
      arith,
      offset_fits c.args.start c.loop-number.offset c.loop-number.number c.loop-number.chunks c.args.chunks.now c.index-chunks-number.result c.bytes.result.now (omega arith) c.index-chunks-number.is
          (c.bytes.ensures ∙ ap (λ (x : ChunkValue). x.bytes) (sym c.index-chunks-number.is))
          c.loop-number.invariant.offset_is c.loop-number.invariant.same c.requires.fits,
    )

pub go_on-requires-clause-fits : goal.go_on-requires-clause-fits
go_on-requires-clause-fits c = still_fits c.args.start c.loop-number.chunks c.args.chunks.now c.loop-number.invariant.same c.requires.fits

pub loop-number-preserved : goal.loop-number-preserved
loop-number-preserved c = record {
  walked = subst (IsReached c.args.depth c.args.start (c.loop-number.number + 1) c.go_on.new.chunks) c.in-On.is c.in_ok-step.ensures.reached;
  same = c.in_ok-step.ensures.bytes ∙ c.loop-number.invariant.same;
  offset_is =
      offset_more c.args.start c.loop-number.offset c.loop-number.number c.loop-number.chunks c.go_on.new.chunks c.index-chunks-number.result c.bytes.result.now (omega arith) c.index-chunks-number.is
      (c.bytes.ensures ∙ ap (λ (x : ChunkValue). x.bytes) (sym c.index-chunks-number.is))
      c.loop-number.invariant.offset_is c.in_ok-step.ensures.bytes;
  sums_are = c.in_ok-step.ensures.sums;
  count = c.in_ok-step.ensures.count ∙ c.loop-number.invariant.count;
}

pub returns-in-Stopped-clause-refused : goal.returns-in-Stopped-clause-refused
returns-in-Stopped-clause-refused c =
    judged_at c.reader_and_grammar.ensures.verdict c.args.depth c.args.start c.go_on.new.chunks c.args.chunks.now (c.loop-number.number + 1) (stopped c.in-Stopped.at)
    (c.in_ok-step.ensures.bytes ∙ c.loop-number.invariant.same) refl
    (subst (IsReached c.args.depth c.args.start (c.loop-number.number + 1) c.go_on.new.chunks) c.in-Stopped.is c.in_ok-step.ensures.reached)

pub returns-in-TooDeep-clause-refused : goal.returns-in-TooDeep-clause-refused
returns-in-TooDeep-clause-refused c =
    judged_at c.reader_and_grammar.ensures.verdict c.args.depth c.args.start c.go_on.new.chunks c.args.chunks.now (c.loop-number.number + 1) (too_deep c.in-TooDeep.at)
    (c.in_ok-step.ensures.bytes ∙ c.loop-number.invariant.same) refl
    (subst (IsReached c.args.depth c.args.start (c.loop-number.number + 1) c.go_on.new.chunks) c.in-TooDeep.is c.in_ok-step.ensures.reached)

pub returns-clause-walked : goal.returns-clause-walked
returns-clause-walked c =
    λ none. walked_all c.args.depth c.args.start c.loop-number.chunks c.loop-number.number ((c.args.group + 1) * 64) (omega arith) c.loop-number.invariant.walked
