use Rattle.std.proofs.Common.{◌<◌, ◌≤◌, length, ap, subst, ◌∙◌, arith}
use Rattle.std.specs.Prelude.{slice_range}
use Rattle.jx_reduce.specs.KnownStack.{Known}
use Rattle.jx_summary.specs.declared.span.Span.{Span}
use Rattle.jx_run.specs.ElementsRun.{judging}
use Rattle.jx_run.specs.ElementVerdict.{IsJudgedElement}
use Rattle.jx_run.specs.Elements.{part}
use Rattle.jx_run.proofs.SeqReading.{read_one, read_none, read_all}
use Rattle.jx_run.proofs.sequences.marked_elements.PartRunPiece.behind.Goals.{then-from-at+in_ok-read_element+in_ok-push, else-from-at}
use Rattle.jx_run.proofs.sequences.marked_elements.PartRunPiece.behind.Goals as goal

pub loop-at-preserved : goal.loop-at-preserved
loop-at-preserved c =
    let l = c.loop-at in
    let found = c.in-Some.ensures in
    let low : l.from ≤ c.in-Some.at = found.within.0 in
    let high : c.in-Some.at < c.args.end = found.within.1 in
    let inside : c.in-Some.at ≤ length c.args.text.now = (let within = c.requires.within in omega (arith, high, within)) in
    record {
      marked = omega arith;
      within = omega arith;
      depth =
          elim c.if-from-at.branch [
            | then-from-at+in_ok-read_element+in_ok-push w ↦ ap (λ (k : Known). k.depth) w.stack-is ∙ w.in_ok-read_element.ensures.depth ∙ l.invariant.depth
            | else-from-at w ↦ ap (λ (k : Known). k.depth) w.stack-is ∙ l.invariant.depth
          ];
      read =
          elim c.if-from-at.branch [
            | then-from-at+in_ok-read_element+in_ok-push w ↦ rw (w.done-is, w.in_ok-push.ensures.items)
                (read_one (IsJudgedElement c.args.depth) c.args.text.now c.args.start l.from c.in-Some.at c.args.end l.done.items w.in_ok-read_element.field-0 w.if-from-at.true inside
                found.before found.behind (subst (λ n. IsJudgedElement n (part l.from (slice_range c.args.text.now l.from c.in-Some.at)) w.in_ok-read_element.field-0) l.invariant.depth w.in_ok-read_element.ensures.judged) l.invariant.read)
            | else-from-at w ↦ rw (w.done-is)
                (read_none (IsJudgedElement c.args.depth) c.args.text.now c.args.start l.from c.in-Some.at c.args.end l.done.items w.if-from-at.false inside found.before found.behind l.invariant.read)
          ];
    }

pub returns-clause-of : goal.returns-clause-of
returns-clause-of c =
    read_all judging c.args.depth c.args.text.now c.args.start c.loop-at.from c.args.end c.loop-at.done.items c.in_ok-after.after c.loop-at.invariant.marked c.in_default.ensures.none
    (ap (λ (s : Span). s.start) c.in_ok-after.ensures.span) c.in_ok-after.ensures.depth c.in_ok-after.ensures.of c.loop-at.invariant.read
