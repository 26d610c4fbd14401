use Rattle.jx_serve.proofs.Texts.{added_string}
use Rattle.jx_serve.proofs.symbol_words.add_string.Goals as goal

pub returns : goal.returns
returns c = λ yes. added_string c.args.out.now.items c.extend_from_slice.new.self.items c.args.string.now (c.is_unescaped_string.ensures yes) c.in_ok-extend_from_slice.ensures.items
