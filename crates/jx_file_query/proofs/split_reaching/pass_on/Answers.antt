use Rattle.std.proofs.Common.{arith}
use Rattle.jx_file_query.proofs.split_reaching.pass_on.Goals as goal

pub chunks-init : goal.chunks-init
chunks-init c = record { later = omega arith; cut = λ settings chunk text known was. was }

pub chunks-preserved : goal.chunks-preserved
chunks-preserved c = record {
  later = omega arith;
  cut = λ settings chunk text known was. c.in-Some.ensures settings chunk text known (c.chunks.invariant.cut settings chunk text known was);
}
