use Rattle.std.proofs.Common.{[], sym, ◌∙◌}
use Rattle.jx_run.specs.Telling.{at_start, tokens_by}
use Rattle.jx_file_query.proofs.WalkComings.{none_yet}
use Rattle.jx_file_query.proofs.Marks.{cut_of}
use Rattle.jx_file_query.proofs.split_reading.read_first.Goals as goal

pub returns-clause-cut : goal.returns-clause-cut
returns-clause-cut g c =
    let e = g.E.Earlier in
    let settings = c.args.settings.now in
    let track = tokens_by settings.mark c.args.slice.now in
    let begins = none_yet c.new-reader.result settings c.new-reader.ensures.settings c.new-reader.ensures.start c.new-reader.ensures.reads in
    cut_of e.aim e.base e.cuts track.marks c.args.aim c.requires.aim 0 c.requires.base c.args.held c.requires.cuts c.in_ok-told.told.cutting c.in_ok-told.told.aim c.in_ok-told.told.base
    (c.in_ok-told.ensures.told (sym c.is_done.ensures ∙ c.if-is_done.false) (at_start settings.mark) begins [] [] c.new-sink.ensures)
