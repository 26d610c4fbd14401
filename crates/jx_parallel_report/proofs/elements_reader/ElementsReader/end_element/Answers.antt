use Rattle.std.proofs.Common.{◌≡◌, List, ◌∷◌, [], ◌+◌, ◌++◌, Option, None, Some, subst, append-nil}
use Rattle.std.specs.List.{AllZip}
use Rattle.jx_run.specs.declared.sequences.element_verdict.JudgedElement.{JudgedElement}
use Rattle.jx_run.specs.Elements.{elements}
use Rattle.jx_run.specs.ElementVerdict.{IsJudgedElement}
use Rattle.jx_run.specs.SequenceRead.{ended_there, listed}
use Rattle.jx_run.specs.Tree.{span}
use Rattle.jx_parallel_report.proofs.elements_reader.ElementsReader.end_element.Goals as goal

pub returns-in-None-clause-ended : goal.returns-in-None-clause-ended
returns-in-None-clause-ended c = λ xs h.
    let old = c.args.self.now in
    let depth = c.args.rule.now.depth in
    let none : ended_there (span old.reader.start (old.reader.start + old.reader.count)) c.verdict.result old.open_ended ≡ None = cc in
    let all = c.elements_of_two_parts.ensures.ended depth xs h.judged old.reader old.open_ended c.verdict.result h.read c.verdict.ensures.verdict in
    record {
      judged = h.judged;
      are = subst (λ (js : List JudgedElement). AllZip (IsJudgedElement depth) (elements 0 xs) js) (append-nil h.judged)
          (subst (λ (o : Option JudgedElement). AllZip (IsJudgedElement depth) (elements 0 xs) (h.judged ++ listed o)) none all);
      told = h.told;
    }

pub returns-in_ok-tell-in-Some-clause-ended : goal.returns-in_ok-tell-in-Some-clause-ended
returns-in_ok-tell-in-Some-clause-ended c = λ xs h.
    let old = c.args.self.now in
    let depth = c.args.rule.now.depth in
    let x : JudgedElement = c.in-Some.element in
    let one : ended_there (span old.reader.start (old.reader.start + old.reader.count)) c.verdict.result old.open_ended ≡ Some x = cc in
    let all = c.elements_of_two_parts.ensures.ended depth xs h.judged old.reader old.open_ended c.verdict.result h.read c.verdict.ensures.verdict in
    record {
      judged = h.judged ++ x ∷ [];
      are = subst (λ (o : Option JudgedElement). AllZip (IsJudgedElement depth) (elements 0 xs) (h.judged ++ listed o)) one all;
      told = c.in_ok-tell-in-Some.ensures.told h.judged h.told;
    }
