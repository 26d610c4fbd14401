use Rattle.std.proofs.Common.{◌≡◌, ◌+◌, arith}
use Rattle.jx_file_query.proofs.Told.{block_over}
use Rattle.jx_file_query.proofs.walk_reaching.over_block.Goals as goal

pub returns : goal.returns
returns c =
    let at = c.args.at in
    let end = c.in_ok-end.end in
    let block = c.args.block in
    let b = c.requires.block in
    let some = b.some in
    let end_is : end ≡ at + block.chunks = omega (arith, c.in_ok-end.ensures) in
    record {
      later = omega (arith, end_is, some);
      leads = λ settings chunk text known was next found next_is begun_is.
          block_over settings chunk text c.args.index.now known c.lex_of_two_parts.ensures.two c.args.edges.now at end block c.in_ok-later_span.later_span c.in_ok-here.here c.in_ok-later.later c.args.held.now c.in_ok-over.over
          c.if-at-eq0.false b end_is c.kept_of.ensures.at c.in_ok-here.ensures (c.in_ok-later.ensures.kept settings chunk text known)
          c.in_ok-over.ensures.over c.in_ok-over.ensures.turn was next found next_is begun_is;
    }
