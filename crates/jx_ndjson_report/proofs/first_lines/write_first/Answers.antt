use Rattle.std.proofs.Common.{◌≡◌, ◌<◌, ℕ, List, arith, inl, subst}
use Rattle.std.specs.Io.KnownBytes.{Appends}
use Rattle.jx_ends.specs.Ends.{AppendsBeginning}
use Rattle.jx_ndjson_report.proofs.FirstTakes.{first_due, writes_below, writes_most}
use Rattle.jx_ndjson_report.proofs.first_lines.write_first.Goals as goal

pub returns-in_err-write_whole-clause-beginning : goal.returns-in_err-write_whole-clause-beginning
returns-in_err-write_whole-clause-beginning g c = λ is.
    record {
      more = c.take_first.new.teller.ready;
      wrote = subst (λ (l : List ℕ). AppendsBeginning (g.W.Sink.contents c.args.writer.now) (g.W.Sink.contents c.write_whole.new.writer) l) c.ready.ensures.ready c.in_err-write_whole.ensures.err;
      begun = λ text given h.
          inl (first_due c.ended_lines_of_a_reader.ensures.told c.args.task.now c.args.most c.in_ok-take_first.field-0 text c.args.batch.now given c.take_first.new.teller
          (c.in_ok-take_first.ensures.taken text given h.0) c.in_ok-take_first.ensures.few c.in_ok-take_first.ensures.all);
    }

pub returns-then-bad-most-clause-below : goal.returns-then-bad-most-clause-below
returns-then-bad-most-clause-below g c = λ is.
    let lt = c.if-bad-most.true in
    let same = c.bad.ensures in
    let kept = c.clear.ensures.bad in
    let few : c.clear.new.self.bad < c.args.most = omega (arith, lt, same) in
    let before : c.take_first.new.teller.bad < c.args.most = omega (arith, few, kept) in
    writes_below c.args.task.now c.args.most c.in_ok-take_first.field-0 c.args.batch.now c.args.teller.now c.take_first.new.teller c.clear.new.self (g.W.Sink.contents c.args.writer.now)
    (g.W.Sink.contents c.write_whole.new.writer)
    c.in_ok-take_first.ensures.taken c.clear.ensures.lines c.clear.ensures.good kept c.clear.ensures.ready
    (subst (λ (l : List ℕ). Appends (g.W.Sink.contents c.args.writer.now) (g.W.Sink.contents c.write_whole.new.writer) l) c.ready.ensures.ready c.in_ok-write_whole.ensures.ok)
    few (c.in_ok-take_first.ensures.all before)

pub returns-clause-full : goal.returns-clause-full
returns-clause-full g c = λ is.
    let not = c.if-bad-most.false in
    let same = c.bad.ensures in
    let kept = c.clear.ensures.bad in
    let most = c.in_ok-take_first.ensures.few in
    let full : c.clear.new.self.bad ≡ c.args.most = omega (arith, not, same, kept, most) in
    writes_most c.args.task.now c.args.most c.in_ok-take_first.field-0 c.args.batch.now c.args.teller.now c.take_first.new.teller c.clear.new.self (g.W.Sink.contents c.args.writer.now)
    (g.W.Sink.contents c.write_whole.new.writer)
    c.in_ok-take_first.ensures.taken c.clear.ensures.lines c.clear.ensures.good kept c.clear.ensures.ready
    (subst (λ (l : List ℕ). Appends (g.W.Sink.contents c.args.writer.now) (g.W.Sink.contents c.write_whole.new.writer) l) c.ready.ensures.ready c.in_ok-write_whole.ensures.ok)
    full
