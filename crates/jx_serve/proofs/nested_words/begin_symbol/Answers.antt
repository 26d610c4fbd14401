use Rattle.jx_serve.specs.Words.{ends}
use Rattle.jx_serve.proofs.Texts.{added_head}
use Rattle.jx_serve.proofs.nested_words.begin_symbol.Goals as goal

pub returns : goal.returns
returns c = λ yes.
    let symbol = c.args.symbol.now in
    added_head c.args.out.now.items c.add_named.new.out.items c.extend_from_slice.new.self.items c.add_ends.new.out.items c.extend_from_slice-2.new.self.items c.add_ends-2.new.out.items
    c.extend_from_slice-3.new.self.items (ends symbol.outer symbol.end) (ends symbol.outer symbol.label) (c.in_ok-known.ensures yes) c.in_ok-extend_from_slice.ensures.items
    c.in_ok-add_ends.ensures.words c.in_ok-add_ends.ensures.value c.in_ok-extend_from_slice-2.ensures.items c.in_ok-add_ends-2.ensures.words c.in_ok-add_ends-2.ensures.value
    c.in_ok-extend_from_slice-3.ensures.items
