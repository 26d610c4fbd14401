use Rattle.std.proofs.Common.{rules}
use Rattle.std.proofs.lemmas.Result.{on_ok_weaker}
use Rattle.jx_answer.specs.inside.Fronts.{GoesOn}
use Rattle.jx_answer.proofs.Fronts.{read_behind}
use Rattle.jx_answer.proofs.batches.reading.read_shared.Goals as goal

pub returns-in-Ok-into_reader-clause-reads : goal.returns-in-Ok-into_reader-clause-reads
returns-in-Ok-into_reader-clause-reads g c =
    let front = c.split_at.result.0.now in
    let rest = c.split_at.result.1.now in
    let old = c.args.reader in
    let mid = c.in-Ok-into_reader.reader in
    let on : GoesOn front old mid = search rules in
    on_ok_weaker c.go_on-read.result
    (λ reads before read. read_behind c.args.batch.now front rest before old mid c.go_on-read.new.reader c.split_at.ensures.by_index.0 on reads read)
    c.go_on-read.ensures.reads
