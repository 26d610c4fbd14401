use Rattle.std.proofs.Common.{◌++◌, ◌∙◌, ap}
use Rattle.jx_serve.proofs.Texts.{added_named}
use Rattle.jx_serve.proofs.symbol_words.add_named.Goals as goal

pub returns : goal.returns
returns c = λ yes.
    let member = c.in_ok-extend_from_slice-2.ensures.items ∙ ap (λ l. c.add_name.new.out.items ++ l) c.kind_member.ensures in
    added_named c.args.out.now.items c.extend_from_slice.new.self.items c.add_name.new.out.items c.extend_from_slice-2.new.self.items c.args.row.now.kind c.in_ok-extend_from_slice.ensures.items
    (c.in_ok-known.ensures yes) member
