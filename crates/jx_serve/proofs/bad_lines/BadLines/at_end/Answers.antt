use Rattle.jx_ndjson.specs.Reading.{listed}
use Rattle.jx_serve.proofs.BadLinesRead.{bad_at_end}
use Rattle.jx_serve.proofs.bad_lines.BadLines.at_end.Goals as goal

pub returns : goal.returns
returns c = λ settings input h.
    bad_at_end settings input c.args.self.bad.items c.add_line.new.bad.items (listed c.last_line.result) c.args.self.reader h (λ told t. c.last_line.ensures.told settings input told t) c.in_ok-add_line.ensures
