use Rattle.std.proofs.Common.{◌+◌, ◌<◌, List, length, sym, subst, take, arith}
use Rattle.jx_words.specs.declared.pointer_answer.PointerAnswer.{PointerAnswer}
use Rattle.jx_values.specs.inside.Moved.{AllStaySame}
use Rattle.jx_values.proofs.Gathers.{stay_step}
use Rattle.jx_values.proofs.gathered.gather.Goals as goal

pub loop-number-preserved : goal.loop-number-preserved
loop-number-preserved c = λ text all.
    let l = c.loop-number in
    let answers = c.args.answers.now in
    let h = l.invariant text all in
    let low : l.number < length answers = omega arith in
    let grown = c.in_ok-here.ensures.grown in
    let next = c.answer_among.new.bytes.items in (
      c.take_kept.ensures.left text h.0,
      subst (λ (ms : List PointerAnswer). AllStaySame text next (take (l.number + 1) answers) ms) (sym c.in_ok-push.ensures.items)
          (stay_step text l.bytes.items grown.0 next answers l.moved.items l.number _ c.in_ok-here.here low h.1 grown.1 (c.in_ok-here.ensures.same text (c.in-Some.ensures.taken text h.0))),
    )
