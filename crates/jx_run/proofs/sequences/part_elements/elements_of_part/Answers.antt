use Rattle.std.proofs.Common.{◌≡◌, ◌+◌, ◌-◌, ◌<◌, ◌≤◌, [], length, ap, subst, ◌∙◌, append-nil, arith}
use Rattle.std.specs.Prelude.{slice_range}
use Rattle.std.specs.List.{AllZip}
use Rattle.jx_reduce.specs.KnownStack.{Known}
use Rattle.jx_run.specs.ElementVerdict.{IsJudgedElement}
use Rattle.jx_run.specs.Elements.{part}
use Rattle.std.proofs.lemmas.List.Edits.{length-between}
use Rattle.jx_run.specs.Elements.{filled}
use Rattle.jx_run.proofs.PlacedElements.{IsPlaced, placed_elements, read_last}
use Rattle.jx_run.proofs.SeqReading.{read_one, read_none, rest_at, one_reading, no_reading}
use Rattle.jx_run.proofs.sequences.part_elements.elements_of_part.Goals.{then-from-at+in_ok-read_element+in_ok-push, else-from-at, then-from-part+in_ok-read_element-2+in_ok-push-2, else-from-part}
use Rattle.jx_run.proofs.sequences.part_elements.elements_of_part.Goals as goal

pub loop-at-preserved : goal.loop-at-preserved
loop-at-preserved c =
    let l = c.loop-at in
    let text = c.args.part.now in
    let end = length text in
    let R = IsPlaced c.args.depth c.args.before in
    let found = c.in-Some.ensures in
    let low : l.from ≤ c.in-Some.at = found.within.0 in
    let high : c.in-Some.at < end = found.within.1 in
    let inside : c.in-Some.at ≤ end = omega (arith, high) in
    record {
      marked = omega arith;
      within = omega arith;
      depth =
          elim c.if-from-at.branch [
            | then-from-at+in_ok-read_element+in_ok-push w ↦ ap (λ (k : Known). k.depth) w.stack-is ∙ w.in_ok-read_element.ensures.depth ∙ l.invariant.depth
            | else-from-at w ↦ ap (λ (k : Known). k.depth) w.stack-is ∙ l.invariant.depth
          ];
      read =
          elim c.if-from-at.branch [
            | then-from-at+in_ok-read_element+in_ok-push w ↦ rw (w.judged-is, w.in_ok-push.ensures.items)
                (read_one R text 1 l.from c.in-Some.at end l.judged.items w.in_ok-read_element.field-0 w.if-from-at.true inside
                found.before found.behind
                (subst (λ n. IsJudgedElement n (part (c.args.before + l.from) (slice_range text l.from c.in-Some.at)) w.in_ok-read_element.field-0) l.invariant.depth w.in_ok-read_element.ensures.judged) l.invariant.read)
            | else-from-at w ↦ rw (w.judged-is)
                (read_none R text 1 l.from c.in-Some.at end l.judged.items w.if-from-at.false inside found.before found.behind l.invariant.read)
          ];
    }

pub returns : goal.returns
returns c =
    let l = c.loop-at in
    let text = c.args.part.now in
    let end = length text in
    let R = IsPlaced c.args.depth c.args.before in
    let marked = l.invariant.marked in
    let within : l.from ≤ end = l.invariant.within in
    let last = slice_range text l.from end in
    let long : length last ≡ end - l.from = length-between text l.from end (omega arith) in
    let none = c.in_default.ensures.none in
    let all : AllZip R (filled (rest_at text 1 end)) c.if-from-part.judged.items =
    elim c.if-from-part.branch [
      | then-from-part+in_ok-read_element-2+in_ok-push-2 w ↦ rw (w.judged-is, w.in_ok-push-2.ensures.items)
          (read_last R (rest_at text 1 end) text l.from end l.judged.items _ none l.invariant.read
          (one_reading R (part l.from last) w.in_ok-read_element-2.field-0 (let t = w.if-from-part.true in omega (arith, long, t))
          (subst (λ n. IsJudgedElement n (part (c.args.before + l.from) last) w.in_ok-read_element-2.field-0) l.invariant.depth w.in_ok-read_element-2.ensures.judged)))
      | else-from-part w ↦ rw (w.judged-is)
          (subst (AllZip R (filled (rest_at text 1 end))) (append-nil l.judged.items)
          (read_last R (rest_at text 1 end) text l.from end l.judged.items [] none l.invariant.read
          (no_reading R (part l.from last) (let f = w.if-from-part.false in omega (arith, long, f)))))
    ] in
    record { elements = placed_elements c.args.depth c.args.before text c.if-from-part.judged.items c.requires.starts (omega (arith, marked, within)) all }
