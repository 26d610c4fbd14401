use Rattle.std.proofs.Common.{arith}
use Rattle.jx_file_query.proofs.walk_reaching.pass_on.Goals as goal

pub chunks-init : goal.chunks-init
chunks-init c = record { later = omega arith; held = λ settings chunk text known names was. was }

pub chunks-preserved : goal.chunks-preserved
chunks-preserved c =
    let further = c.over_some-reached.ensures.later in
    let so_far = c.chunks.invariant.later in
    record {
      later = omega (arith, further, so_far);
      held = λ settings chunk text known names was. c.over_some-reached.ensures.held settings chunk text known names (c.chunks.invariant.held settings chunk text known names was);
    }

pub returns-then-reached-at-clause-held : goal.returns-then-reached-at-clause-held
returns-then-reached-at-clause-held c = λ settings chunk text known names was.
    c.over_some-reached.ensures.held settings chunk text known names (c.chunks.invariant.held settings chunk text known names was)
