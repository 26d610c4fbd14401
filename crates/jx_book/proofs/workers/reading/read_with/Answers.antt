use Rattle.std.proofs.Common.{◌≡◌, ◌+◌, arith}
use Rattle.std.specs.Prelude.{vec_len}
use Rattle.std.proofs.lemmas.Result.{IfOk-weaker}
use Rattle.jx_book.proofs.workers.reading.read_with.Goals as goal

pub all_ends-requires-clause-len : goal.all_ends-requires-clause-len
all_ends-requires-clause-len g c =
    let all = c.in-Ok.ensures.len in
    IfOk-weaker c.work_all-errand.result.2 (λ v. vec_len v ≡ vec_len c.in-Ok.opened.others) (λ v. vec_len v + 1 ≡ g.P.Ledger.parts) (λ v len. omega (arith, len, all)) c.work_all-errand.ensures.len
