use Rattle.std.proofs.Common.{sym}
use Rattle.std.proofs.lemmas.Result.{IfErr-weaker, IfOk-weaker}
use Rattle.jx_run.specs.declared.texts.verdict.Verdict.TheVariants.{Refused}
use Rattle.jx_around.proofs.Collects.{around_behind}
use Rattle.jx_around.proofs.reading.values_around.Goals as goal

pub returns-in-Skip-clause-accepted : goal.returns-in-Skip-clause-accepted
returns-in-Skip-clause-accepted c =
    let text = c.args.text.now in
    let settings = c.args.settings.now in
    let count = c.in-Skip.count in
    let law = c.index_behind_a_front.ensures in
    IfOk-weaker c.around_from.result _ _
    (λ read. IfOk-weaker read _ _
    (λ table h. around_behind settings text count c.args.offset table.items (λ i k. law.index settings text count i (sym c.in-Skip.ensures.value) k) h))
    c.around_from.ensures.accepted

pub returns-in-Skip-clause-refused : goal.returns-in-Skip-clause-refused
returns-in-Skip-clause-refused c =
    let text = c.args.text.now in
    let settings = c.args.settings.now in
    let count = c.in-Skip.count in
    let law = c.index_behind_a_front.ensures in
    IfOk-weaker c.around_from.result _ _
    (λ read. IfErr-weaker read _ _ (λ refusal h. law.verdict settings text count (Refused refusal) (sym c.in-Skip.ensures.value) h))
    c.around_from.ensures.refused
