use Rattle.std.proofs.Common.{◌≡◌, refl}
use Rattle.jx_parallel_report.proofs.Lines.{due, never_read}
use Rattle.jx_parallel_report.proofs.lines_report.stop.Goals as goal

pub returns-in-Ok-clause-fault : goal.returns-in-Ok-clause-fault
returns-in-Ok-clause-fault g c = λ rule known written start h. (
  refl,
  due g.K.Asked.settings g.K.Asked.told rule known c.ended_lines_of_a_reader.ensures.told c.args.task.now c.requires.settings c.requires.told written
      (g.W.Sink.contents c.write_waiting.new.writer) c.write_waiting.new.reader.tally (c.in-Ok.ensures.told rule known written h) c.in-Ok.ensures.none_wait,
)

pub returns-in-Err-clause-fault : goal.returns-in-Err-clause-fault
returns-in-Err-clause-fault g c = λ rule known written start h.
    never_read c.args.task.now known (λ why. why ≡ c.args.reason) written (g.W.Sink.contents c.write_waiting.new.writer) c.in-Err.fault (c.in-Err.ensures.fault rule known written start h)
