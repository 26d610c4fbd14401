use Rattle.jx_run.specs.declared.texts.verdict.Verdict.TheVariants.{Accepted}
use Rattle.jx_run.specs.Laws.{verdict_on}
use Rattle.jx_run.specs.Reader.{read_by}
use Rattle.jx_run.proofs.InTurn.{accepted_from}
use Rattle.jx_run.proofs.readers.telling.accepted_texts_stand_behind_fronts.Goals as goal

pub returns : goal.returns
returns c = λ settings bytes h.
    accepted_from c.reader_and_grammar.ensures.verdict settings bytes
    (c.unique_verdict_by_settings.ensures.one_verdict settings 0 bytes (verdict_on (read_by settings.mark settings.depth 0 bytes)) Accepted (c.reader_and_grammar.ensures.by_settings settings 0 bytes) h)
