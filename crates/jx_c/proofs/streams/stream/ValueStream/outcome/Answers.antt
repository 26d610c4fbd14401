use Rattle.std.proofs.Common.{subst, sym}
use Rattle.std.proofs.lemmas.Result.{IfOk-weaker}
use Rattle.jx_run.specs.declared.texts.settings.Settings.{Settings}
use Rattle.jx_run.specs.Settings.{JudgedBy}
use Rattle.jx_c.specs.Values.{HasSought, HasStreamed, IsOutcomeBy, StreamValue}
use Rattle.jx_c.proofs.streams.stream.ValueStream.outcome.Goals as goal

pub returns : goal.returns
returns c =
    let v = c.verdict-verdict.result in
    IfOk-weaker c.outcome_by.result _ _
    (λ outcome told. λ settings pointer input given whole.
    let h = subst (λ (s : StreamValue). HasStreamed settings pointer input given s) (sym c.self.view_is) whole in
    let judged = c.verdict-verdict.ensures pointer input given h.taken in
    let sought = subst (λ (s : Settings). HasSought s pointer input c.self.inside.sought) (sym h.settings_are) h.sought in
    (v, subst (λ (s : Settings). JudgedBy s 0 input v) h.settings_are judged, subst (λ (s : Settings). IsOutcomeBy s pointer input v outcome) h.settings_are (told pointer input given h.taken sought judged)))
    c.outcome_by.ensures
