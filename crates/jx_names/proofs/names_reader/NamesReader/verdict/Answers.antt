use Rattle.std.proofs.Common.{◌≡◌, ap, ◌∙◌}
use Rattle.jx_run.specs.declared.texts.verdict.Verdict.TheVariants.{Accepted, Refused}
use Rattle.jx_run.specs.Laws.{verdict_on}
use Rattle.jx_run.specs.Reader.{read_by}
use Rattle.jx_run.specs.Settings.{JudgedBy}
use Rattle.jx_run.specs.Telling.{tokens_by}
use Rattle.jx_index.specs.ByNames.{no_text}
use Rattle.jx_index.specs.inside.NameLists.{accepted_unless}
use Rattle.jx_names.specs.inside.KeptNames.{kept}
use Rattle.jx_names.proofs.Feeds.{all_held, by_names, judged_as}
use Rattle.jx_names.proofs.names_reader.NamesReader.verdict.Goals as goal

pub returns-in-Refused-clause-verdict : goal.returns-in-Refused-clause-verdict
returns-in-Refused-clause-verdict c =
    λ settings bytes h. no_text (judged_as settings bytes c.args.self h c.verdict.result (Refused c.in-Refused.refusal) c.in-Refused.is c.verdict.ensures.verdict)

pub returns-clause-verdict : goal.returns-clause-verdict
returns-clause-verdict c =
    λ settings bytes h.
    let f = c.args.self in
    let track = tokens_by settings.mark bytes in
    let judged : JudgedBy settings 0 bytes Accepted = judged_as settings bytes f h c.verdict.result Accepted c.in-Accepted.is c.verdict.ensures.verdict in
    let accepted : verdict_on (read_by settings.mark settings.depth 0 bytes) ≡ Accepted =
    c.unique_verdict_by_settings.ensures.one_verdict settings 0 bytes (verdict_on (read_by settings.mark settings.depth 0 bytes)) Accepted (c.reader_and_grammar.ensures.by_settings settings 0 bytes) judged in
    let held = all_held settings bytes f h c.in-Some.held c.in-Some.is accepted in
    let names = c.in_ok-names-in-Accepted.names in
    let a = c.accepted_texts_stand_behind_fronts.ensures settings bytes judged in
    by_names settings bytes a (record { reads = c.grammar_of_tokens.ensures.reads; stays = c.grammar_of_tokens.ensures.stays }) (kept names)
    (c.in_ok-names-in-Accepted.ensures bytes track.marks track.ends held) h.names (λ i front x. c.index_behind_a_front.ensures.index settings bytes a.count i front x) c.accepted_unless.result
    (c.accepted_unless.ensures ∙ ap accepted_unless c.first.ensures)
