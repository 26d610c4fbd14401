use Rattle.std.proofs.Common.{◌≡◌, [], ℕ, List, length, subst}
use Rattle.std.specs.Prelude.{slice_range}
use Rattle.jx_lex.specs.Lex.{lex}
use Rattle.jx_run.specs.Telling.{moved_marks}
use Rattle.jx_run.proofs.ReaderSteps.{slice_all}
use Rattle.jx_file_query.specs.Cuts.{cut_all, cuts_of}
use Rattle.jx_file_query.proofs.Marks.{cut_of}
use Rattle.jx_file_query.proofs.split_reading.read_later.Goals as goal

pub returns-clause-cut : goal.returns-clause-cut
returns-clause-cut g c =
    let e = g.E.Earlier in
    let sink = c.scan.new.sink in
    let track = lex c.args.state 0 (slice_range c.args.slice.now 0 (length c.args.slice.now)) in
    subst (λ (xs : List ℕ). cuts_of sink.cutting ≡ cut_all c.args.aim (moved_marks c.args.base (lex c.args.state 0 xs).marks) (cuts_of c.args.held)) (slice_all c.args.slice.now)
    (cut_of e.aim e.base e.cuts track.marks c.args.aim c.requires.aim c.args.base c.requires.base c.args.held c.requires.cuts sink.cutting sink.aim sink.base
    (c.in_ok-exit.ensures.seen [] [] c.new-sink.ensures))
