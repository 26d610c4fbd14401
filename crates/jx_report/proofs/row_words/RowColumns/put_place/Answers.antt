use Rattle.jx_report.proofs.LineEnds.{pieces_join}
use Rattle.jx_report.proofs.row_words.RowColumns.put_place.Goals as goal

pub returns-clause-words : goal.returns-clause-words
returns-clause-words c =
    pieces_join _ _ _ _ _ c.put_name-name.ensures.words
    (pieces_join _ _ _ _ _ c.put_bytes-behind.ensures.words
    (pieces_join _ _ _ _ _ c.put-place.ensures.words
    (pieces_join _ _ _ _ _ c.put_bytes-middle.ensures.words c.put_parent.ensures.words)))
