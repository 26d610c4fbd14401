use Rattle.jx_serve.specs.Words.{ends}
use Rattle.jx_serve.proofs.Ranges.{added_symbol}
use Rattle.jx_serve.proofs.symbol_words.add_symbol.Goals as goal

pub returns : goal.returns
returns c = λ yes uri.
    let symbol = c.args.symbol.now in
    added_symbol c.args.out.now.items c.add_named.new.out.items c.extend_from_slice.new.self.items c.extend_from_slice-2.new.self.items c.extend_from_slice-3.new.self.items c.add_ends.new.out.items
    c.extend_from_slice-4.new.self.items c.args.uri.now (ends symbol.outer symbol.end) (c.in_ok-known.ensures yes) c.in_ok-extend_from_slice.ensures.items c.in_ok-extend_from_slice-2.ensures.items
    c.in_ok-extend_from_slice-3.ensures.items c.in_ok-add_ends.ensures.words c.in_ok-add_ends.ensures.value c.in_ok-extend_from_slice-4.ensures.items uri
