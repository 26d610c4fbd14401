use Rattle.std.proofs.Common.{arith}
use Rattle.jx_portion.proofs.Said.{is_found, is_not_refused, is_only, is_read}
use Rattle.jx_portion.proofs.decoding.decode.Goals as goal

pub returns-clause-found : goal.returns-clause-found
returns-clause-found c = is_found c.args.bytes.now c.answer.result (λ i. omega (arith, c.type_inv.bytes i)) c.answer.ensures.exact

pub returns-clause-only : goal.returns-clause-only
returns-clause-only c = is_only c.args.bytes.now c.answer.result c.answer.ensures.exact

pub returns-clause-reads : goal.returns-clause-reads
returns-clause-reads c = is_read c.args.bytes.now c.answer.result c.answer.ensures.exact

pub returns-clause-refuses : goal.returns-clause-refuses
returns-clause-refuses c = is_not_refused c.args.bytes.now c.answer.result c.answer.ensures.exact
