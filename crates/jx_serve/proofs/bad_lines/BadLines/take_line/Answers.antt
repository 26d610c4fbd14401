use Rattle.std.proofs.Common.{refl, take}
use Rattle.jx_ndjson.specs.Reading.{listed}
use Rattle.jx_ndjson.specs.Tally.{bad_of}
use Rattle.jx_serve.proofs.BadLinesRead.{bad_more}
use Rattle.jx_serve.proofs.bad_lines.BadLines.take_line.Goals as goal

pub returns-clause-bad : goal.returns-clause-bad
returns-clause-bad c = λ settings input h.
    let old = c.args.self.now in
    let step = c.in_ok-step.step in
    bad_more settings input (take step.taken c.args.piece.now) old.bad.items c.add_line.new.bad.items (bad_of (listed step.line)) (listed step.line) old.reader c.feed.new.self h
    (λ told t. c.in_ok-step.ensures.told settings input told t) refl c.in_ok-add_line.ensures
