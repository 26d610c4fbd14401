use Rattle.jx_serve.proofs.Texts.{added_plain}
use Rattle.jx_serve.proofs.symbol_words.add_member_name.Goals as goal

pub returns-in_ok-extend_from_slice-in-Some : goal.returns-in_ok-extend_from_slice-in-Some
returns-in_ok-extend_from_slice-in-Some c = λ yes.
    added_plain c.args.out.now.items c.extend_from_slice.new.self.items c.args.spelt.now c.in-Some.ensures c.in_ok-extend_from_slice-in-Some.ensures.items
