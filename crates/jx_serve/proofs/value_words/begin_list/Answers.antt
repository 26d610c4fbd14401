use Rattle.jx_serve.proofs.Texts.{headed}
use Rattle.jx_serve.proofs.value_words.begin_list.Goals as goal

pub returns : goal.returns
returns c =
    headed c.args.out.now.items c.extend_from_slice.new.self.items c.extend_from_slice-2.new.self.items c.extend_from_slice-3.new.self.items c.args.id.now c.in_ok-extend_from_slice.ensures.items
    c.in_ok-extend_from_slice-2.ensures.items c.in_ok-extend_from_slice-3.ensures.items
