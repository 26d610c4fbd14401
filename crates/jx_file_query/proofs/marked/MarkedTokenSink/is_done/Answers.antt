use Rattle.std.proofs.Common.{◌≡◌, false, arith}
use Rattle.std.specs.Prelude.{◌==◌}
use Rattle.std.proofs.lemmas.Bool.Decides.{nat_tests}
use Rattle.jx_file_query.specs.Cuts.{cuts_of}
use Rattle.jx_file_query.proofs.Marks.{cut_done}
use Rattle.jx_file_query.proofs.marked.MarkedTokenSink.is_done.Goals as goal

pub returns : goal.returns
returns g c = λ done marks more ends others h.
    let s = c.args.self.now in
    let closed : (s.cutting.sum.closed == 0) ≡ false = grind (arith, nat_tests, done) in
    cut_done g.E.Earlier.aim g.E.Earlier.base g.E.Earlier.cuts marks more s.aim s.base (cuts_of s.cutting) closed h
