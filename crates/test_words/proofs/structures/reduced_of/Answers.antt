use Rattle.std.proofs.Common.{List, take, sym, subst, ◌∙◌}
use Rattle.std.proofs.lemmas.List.{take_more, take_all}
use Rattle.jx_lex.specs.declared.alphabet.mark.Mark.{Mark}
use Rattle.jx_reduce.specs.Reducer.{HasReduced}
use Rattle.test_words.proofs.structures.reduced_of.Goals as goal

pub loop-mark-init : goal.loop-mark-init
loop-mark-init c = record { depth = c.new-reducer.ensures.depth; given = c.new-reducer.ensures.none }

pub loop-mark-preserved : goal.loop-mark-preserved
loop-mark-preserved c =
    let marks = c.args.marks.now in
    let i = c.loop-mark.mark-index in
    record {
      depth = c.in_ok-push.ensures.depth ∙ c.loop-mark.invariant.depth;
      given = subst (λ (ms : List Mark). HasReduced ms c.push.new.self) (sym (take_more marks i _ c.loop-mark-test.true)) (c.in_ok-push.ensures.marks (take i marks) c.loop-mark.invariant.given);
    }

pub returns-clause-offsets : goal.returns-clause-offsets
returns-clause-offsets c =
    let marks = c.args.marks.now in
    let given = subst (λ (ms : List Mark). HasReduced ms c.loop-mark.reducer) (take_all c.loop-mark.mark-index marks c.loop-mark-test.false) c.loop-mark.invariant.given in
    c.finish.ensures.offsets marks given c.requires.rising
