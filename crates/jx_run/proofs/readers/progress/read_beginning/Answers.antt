use Rattle.std.proofs.Common.{◌+◌, ◌<◌, ◌^◌, ap, arith, length, subst, take}
use Rattle.std.proofs.lemmas.List.{length-take-le}
use Rattle.std.proofs.lemmas.Result.{IfOk-weaker}
use Rattle.jx_run.specs.ReaderInside.{IsReadTo, outcome_at}
use Rattle.jx_run.specs.Reader.{is_fault}
use Rattle.jx_run.proofs.ReaderFeeds.{going, passed}
use Rattle.jx_run.proofs.readers.progress.read_beginning.Goals as goal

pub returns-in-Going-clause-reads : goal.returns-in-Going-clause-reads
returns-in-Going-clause-reads g c =
    let a = c.args in
    let old = g.S.OpenStack.known a.stack.now in
    let new = g.S.OpenStack.known c.read_slice.new.stack in
    IfOk-weaker c.read_slice.result _ _
    (λ p goes settings start bytes at h.
    let here = subst (λ q. IsReadTo settings start bytes q old) c.in-Going.is h in
    let xs = take a.to a.slice.now in
    let long = length-take-le a.to a.slice.now c.requires.within in
    let end = c.requires.fits in
    let fits : a.base + length xs < 2 ^ 64 = omega (arith, long, end) in
    going c.reader_and_grammar.ensures.first_fault settings start a.base bytes xs c.in-Going.state old new p at fits here (goes here.of_use.0.marks here.of_use.0.read))
    c.read_slice.ensures.goes_on

pub returns-in-Stopped-clause-reads : goal.returns-in-Stopped-clause-reads
returns-in-Stopped-clause-reads g c = λ settings start bytes at h.
    let r = (g.S.OpenStack.known c.args.stack.now).reading in
    record { outcome = passed settings start bytes (take c.args.to c.args.slice.now) (outcome_at c.args.progress r) (ap (λ p. is_fault (outcome_at p r)) c.in-Stopped.is) h.outcome; of_use = h.of_use }

pub returns-in-TooDeep-clause-reads : goal.returns-in-TooDeep-clause-reads
returns-in-TooDeep-clause-reads g c = λ settings start bytes at h.
    let r = (g.S.OpenStack.known c.args.stack.now).reading in
    record { outcome = passed settings start bytes (take c.args.to c.args.slice.now) (outcome_at c.args.progress r) (ap (λ p. is_fault (outcome_at p r)) c.in-TooDeep.is) h.outcome; of_use = h.of_use }
