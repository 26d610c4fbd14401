use Rattle.std.proofs.Common.{◌≡◌, List, length, rules, subst, ◌∙◌}
use Rattle.std.proofs.lemmas.Slice.Zip.{AllZip-long}
use Rattle.jx_run.specs.declared.sequences.element_verdict.JudgedElement.{JudgedElement}
use Rattle.jx_run.specs.declared.texts.settings.Settings.{Settings}
use Rattle.jx_run.specs.MarkAlone.{elements_by}
use Rattle.jx_c.specs.Buffers.{IsFilled}
use Rattle.jx_index.specs.ByNames.{AreJudgedBy, IsJudgedBy}
use Rattle.jx_c.specs.Elements.{shown_element}
use Rattle.jx_c.specs.Settings.{settings_in}
use Rattle.jx_c.proofs.texts.elements.jx_elements_non_null.Goals as goal

pub returns-in-Ok-judge_elements-clause-elements : goal.returns-in-Ok-judge_elements-clause-elements
returns-in-Ok-judge_elements-clause-elements c = λ ok.
    let sequence = c.args.sequence.now in
    let settings : Settings = settings_in c.args.settings.now in
    let all = c.in-Ok-judge_elements.all.items in
    let are : AreJudgedBy settings sequence all = subst (λ (s : Settings). AreJudgedBy s sequence all) c.in-Ok.ensures.settings c.in-Ok-judge_elements.ensures.elements in
    let long : c.len.result ≡ length all = search rules in
    record {
      count_is = long ∙ AllZip-long (IsJudgedBy settings sequence) (elements_by settings.mark sequence) all are;
      judged = all;
      are = are;
      filled = subst (λ (js : List JudgedElement). IsFilled shown_element c.args.elements.now c.fill.new.buffer js) c.deref.ensures.value c.fill.ensures;
    }
