use Rattle.std.proofs.Common.{arith, length}
use Rattle.jx_serve.proofs.Opens.{gone_back}
use Rattle.jx_serve.proofs.nested_words.go_back.Goals as goal

pub returns-clause-bytes : goal.returns-clause-bytes
returns-clause-bytes c =
    gone_back c.args.out.now.items c.close_to.new.out.items c.extend_from_slice.new.self.items (length c.args.levels.now.items) c.args.count (omega (arith, c.if-len-count.false, c.len.ensures)) c.in_ok-close_to.ensures.bytes
    c.in_ok-extend_from_slice.ensures.items
