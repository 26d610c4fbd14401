use Rattle.std.proofs.Common.{take, ap, rules}
use Rattle.std.proofs.lemmas.List.{places}
use Rattle.std.proofs.lemmas.Result.{IfOk-weaker}
use Rattle.jx_report.proofs.BatchSteps.{taken_more, taken_none, taken_out}
use Rattle.jx_report.proofs.answering.answer_read_by_read.Goals as goal

pub loop-init : goal.loop-init
loop-init g c = record { some = search rules; going = c.requires.reader; taken = taken_none _ _ _ _ c.requires.begins }

pub returns-then-count-eq0-clause-ok : goal.returns-then-count-eq0-clause-ok
returns-then-count-eq0-clause-ok g c =
    let read = c.in_ok-count.ensures in
    let all = taken_out c.args.command.now.task c.args.command.now.settings _ _ _ c.in_ok-count.count c.read_once.new.bytes c.loop.reading c.loop.invariant.taken
    read.ok c.if-count-eq0.true (read.end c.if-count-eq0.true) in
    IfOk-weaker c.into_reply.result _ _ (λ reply h. let told = h all.0 all.2 in record { text = all.0; read = all.1; few = told.0; answer = told.1 }) c.into_reply.ensures.ok

pub returns-then-count-eq0-clause-pieces : goal.returns-then-count-eq0-clause-pieces
returns-then-count-eq0-clause-pieces g c = λ is.
    let read = c.in_ok-count.ensures in
    let all = taken_out c.args.command.now.task c.args.command.now.settings _ _ _ c.in_ok-count.count c.read_once.new.bytes c.loop.reading c.loop.invariant.taken
    read.ok c.if-count-eq0.true (read.end c.if-count-eq0.true) in
    record { text = all.0; read = all.1; many = c.into_reply.ensures.pieces is all.0 all.2 }

pub loop-preserved : goal.loop-preserved
loop-preserved g c =
    record {
      some = search rules;
      going = c.in_ok-count.ensures.going;
      taken = taken_more c.args.command.now.task c.args.command.now.settings _ _ _ _ (take c.in_ok-count.count c.read_once.new.bytes) c.loop.reading c.read.new.self c.loop.invariant.taken
          c.in_ok-count.ensures.ok (ap (take c.in_ok-count.count) (search (rules, places))) c.in_ok-read.ensures.reads;
    }
