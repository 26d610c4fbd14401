use Rattle.std.proofs.Common.{◌∙◌}
use Rattle.jx_each.proofs.Stretching.{cut_back}
use Rattle.jx_each.proofs.copies.push_short.Goals as goal

pub returns : goal.returns
returns c =
    cut_back c.args.part.now.items c.args.bytes.now c.extend_from_slice.new.self.items c.truncate.new.self.items c.args.from c.args.to c.len.result c.requires.order.0 c.requires.order.1 c.requires.room
    c.in_ok-extend_from_slice.ensures.items (c.len.ensures ∙ c.extend_from_slice.new.self.ok.0) c.truncate.ensures.items
