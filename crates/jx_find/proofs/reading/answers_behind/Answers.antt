use Rattle.std.proofs.Common.{◌≡◌, ◌∙◌}
use Rattle.jx_run.specs.declared.texts.verdict.Verdict.TheVariants.{Accepted}
use Rattle.jx_run.specs.Laws.{verdict_on}
use Rattle.jx_run.specs.Reader.{read_by}
use Rattle.jx_run.specs.Settings.{JudgedBy}
use Rattle.jx_run.specs.Telling.{tokens_by}
use Rattle.jx_find.proofs.Finders.{all_held, end_is, judged_as}
use Rattle.jx_find.proofs.reading.answers_behind.Goals as goal

pub returns-in_ok-found-in-Accepted-clause-found : goal.returns-in_ok-found-in-Accepted-clause-found
returns-in_ok-found-in-Accepted-clause-found c = λ settings bytes h trie ways.
    let a = c.args in
    let track = tokens_by settings.mark bytes in
    let judged : JudgedBy settings 0 bytes Accepted = judged_as settings bytes a.edges.now a.reader.now a.held h c.verdict.result Accepted c.in-Accepted.is c.verdict.ensures.verdict in
    let accepted : verdict_on (read_by settings.mark settings.depth 0 bytes) ≡ Accepted =
    c.unique_verdict_by_settings.ensures.one_verdict settings 0 bytes (verdict_on (read_by settings.mark settings.depth 0 bytes)) Accepted (c.reader_and_grammar.ensures.by_settings settings 0 bytes) judged in
    let met = c.in_ok-met-in-Accepted.ensures bytes track.marks track.ends (c.end-last.ensures ∙ end_is settings bytes a.edges.now a.reader.now a.held h) (all_held settings bytes a.edges.now a.reader.now a.held h accepted) in
    c.in_ok-found-in-Accepted.ensures settings bytes trie ways judged (c.deref.ensures.value ∙ met)
