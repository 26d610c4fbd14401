use Rattle.jx_report.proofs.LineEnds.{pieces_join}
use Rattle.jx_report.proofs.row_words.SpanColumns.put.Goals as goal

pub returns-clause-words : goal.returns-clause-words
returns-clause-words c =
    pieces_join _ _ _ _ _ c.put-to.ensures.words (pieces_join _ _ _ _ _ c.put_bytes-dots.ensures.words c.put.ensures.words)
