use Rattle.jx_serve.proofs.Texts.{added_root}
use Rattle.jx_serve.proofs.symbol_words.add_name.Goals as goal

pub returns-in_ok-extend_from_slice-in-None : goal.returns-in_ok-extend_from_slice-in-None
returns-in_ok-extend_from_slice-in-None c = λ yes. added_root c.args.out.now.items c.extend_from_slice.new.self.items c.in_ok-extend_from_slice-in-None.ensures.items
