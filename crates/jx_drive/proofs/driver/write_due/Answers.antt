use Rattle.std.proofs.Common.{List, ℕ, ◌++◌, subst}
use Rattle.std.specs.Io.KnownBytes.{Appends}
use Rattle.jx_ends.specs.Ends.{AppendsBeginning}
use Rattle.jx_drive.proofs.Writes.{when_ok}
use Rattle.jx_drive.proofs.driver.write_due.Goals as goal

pub returns-in_err-write_whole-clause-beginning : goal.returns-in_err-write_whole-clause-beginning
returns-in_err-write_whole-clause-beginning g c = λ is was.
    record {
      more = g.T.Reporter.ready c.take.new.arg2;
      wrote = subst (λ (l : List ℕ). AppendsBeginning (g.W.Sink.contents c.args.writer.now) (g.W.Sink.contents c.write_whole.new.writer) l) c.ready.ensures.ready c.in_err-write_whole.ensures.err;
      begun = λ text given h.
          c.what_waits_is_due.ensures.begun c.args.task.now was c.args.beside.now (text ++ c.args.batch.now) given c.take.new.arg2
          (when_ok c.take.result c.in_ok-take.field-0 (g.T.Reporter.has_taken c.args.task.now was c.args.beside.now (text ++ c.args.batch.now) given c.take.new.arg2) c.in_ok-take.was
          (c.requires.takes was c.args.beside.now text given _ _ _ _ c.take.ensures h));
    }

pub returns-clause-ok : goal.returns-clause-ok
returns-clause-ok g c = λ was.
    record {
      more = g.T.Reporter.ready c.take.new.arg2;
      wrote = subst (λ (l : List ℕ). Appends (g.W.Sink.contents c.args.writer.now) (g.W.Sink.contents c.write_whole.new.writer) l) c.ready.ensures.ready c.in_ok-write_whole.ensures.ok;
      takes = λ text given h.
          c.clear.ensures.taken c.args.task.now was (text ++ c.args.batch.now) given
          (when_ok c.take.result c.in_ok-take.field-0 (g.T.Reporter.has_taken c.args.task.now was c.args.beside.now (text ++ c.args.batch.now) given c.take.new.arg2) c.in_ok-take.was
          (c.requires.takes was c.args.beside.now text given _ _ _ _ c.take.ensures h));
      none_wait = c.clear.ensures.ready;
      none_told = c.clear.ensures.told;
    }
