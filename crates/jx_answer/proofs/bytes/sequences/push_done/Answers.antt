use Rattle.std.proofs.Common.{rules, ◌≡◌, suc, ◌+◌, ◌<◌, List, [], ◌∷◌, ◌++◌, length, take, get_or, sym, ap, subst, ◌∙◌, append_assoc, arith}
use Rattle.std.specs.List.{AllZip}
use Rattle.std.proofs.Math.Seq.{take-suc}
use Rattle.jx_run.specs.Started.{StartedValue}
use Rattle.jx_answer.specs.inside.Pushed.{IsOfReading}
use Rattle.jx_answer.proofs.Readable.{AllZip-append}
use Rattle.jx_answer.proofs.bytes.sequences.push_done.Goals as goal

pub loop-number-preserved : goal.loop-number-preserved
loop-number-preserved c =
    let l = c.loop-number in
    let i = l.invariant in
    let input = c.args.text.now in
    let done : List StartedValue = c.args.done.now in
    let x : StartedValue = c.index-done-number.result in
    let e = c.in_ok-element_of.field-0 in
    let at : get_or done l.number x ≡ x = search rules in
    let low : l.number < length done = search rules in
    let next : l.number + 1 ≡ suc l.number = omega arith in
    let longer : take (l.number + 1) done ≡ take l.number done ++ x ∷ [] =
    (ap (λ n. take n done) next ∙ take-suc done l.number x low ∙ ap (λ (y : StartedValue). take l.number done ++ y ∷ []) at) in
    record {
      more = i.more ++ e ∷ [];
      new_is = c.in_ok-push.ensures.items ∙ ap (λ xs. xs ++ e ∷ []) i.new_is ∙ append_assoc _ i.more (e ∷ []);
      each = subst (λ (ss : List StartedValue). AllZip (IsOfReading input) ss (i.more ++ e ∷ [])) (sym longer)
          (AllZip-append (IsOfReading input) (take l.number done) (x ∷ []) i.more (e ∷ []) i.each (c.in_ok-element_of.ensures.element, tt));
    }
