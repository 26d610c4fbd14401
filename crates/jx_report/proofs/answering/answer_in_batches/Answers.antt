use Rattle.std.proofs.Common.{take, ap, rules}
use Rattle.std.proofs.lemmas.Result.{IfOk-weaker}
use Rattle.jx_report.proofs.BatchSteps.{all_taken, next_pending}
use Rattle.jx_report.proofs.answering.answer_in_batches.Goals as goal

pub returns-then-filled-step-clause-ok : goal.returns-then-filled-step-clause-ok
returns-then-filled-step-clause-ok g c =
    let all = all_taken c.args.command.now.task c.args.command.now.settings _ _ _ (take c.loop.filled c.loop.bytes.items) c.loop.reading c.read.new.self c.loop.invariant.pending
    (ap (take c.loop.filled) c.deref.ensures.value) c.in_ok-read.ensures.reads (c.loop.invariant.end c.if-filled-step.true) in
    IfOk-weaker c.into_reply.result _ _ (λ reply h. let told = h all.0 all.2 in record { text = all.0; read = all.1; few = told.0; answer = told.1 }) c.into_reply.ensures.ok

pub returns-then-filled-step-clause-pieces : goal.returns-then-filled-step-clause-pieces
returns-then-filled-step-clause-pieces g c = λ is.
    let all = all_taken c.args.command.now.task c.args.command.now.settings _ _ _ (take c.loop.filled c.loop.bytes.items) c.loop.reading c.read.new.self c.loop.invariant.pending
    (ap (take c.loop.filled) c.deref.ensures.value) c.in_ok-read.ensures.reads (c.loop.invariant.end c.if-filled-step.true) in
    record { text = all.0; read = all.1; many = c.into_reply.ensures.pieces is all.0 all.2 }

pub loop-preserved-then-not-is_short : goal.loop-preserved-then-not-is_short
loop-preserved-then-not-is_short g c =
    record {
      most = c.next_step-step.ensures.1;
      held = search rules;
      within = search rules;
      room = search rules;
      going = search rules;
      end = search rules;
      pending = next_pending c.args.command.now.task c.args.command.now.settings _ _ _ (take c.loop.filled c.loop.bytes.items) c.loop.reading c.read_beside.new.reading c.loop.invariant.pending
          (ap (take c.loop.filled) c.deref-in-loop.ensures.value) c.in_ok-filled-2.ensures.reads _ _ (search rules);
    }

pub loop-preserved : goal.loop-preserved
loop-preserved g c =
    let now = c.in_ok-filled-3.ensures in
    record {
      most = c.next_step-step.ensures.1;
      held = now.room;
      within = now.within;
      room = search rules;
      going = now.going;
      end = now.end;
      pending = next_pending c.args.command.now.task c.args.command.now.settings _ _ _ (take c.loop.filled c.loop.bytes.items) c.loop.reading c.read-else-count-gt1.new.self c.loop.invariant.pending
          (ap (take c.loop.filled) c.deref-in-loop.ensures.value) c.in_ok-read-2.ensures.reads _ _ now.ok;
    }
