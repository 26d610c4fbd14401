use Rattle.jx_c.proofs.streams.reader.jx_reader_verdict.Goals as goal

pub returns-clause-judged : goal.returns-clause-judged
returns-clause-judged c = λ ok settings fed any h.
    (c.verdict.result, ((c.repeated_name_by_rows.ensures.any settings fed c.verdict.result any).1 (c.verdict.ensures settings fed h), c.shown.ensures))
