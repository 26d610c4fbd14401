use Rattle.std.proofs.Common.{arith}
use Rattle.jx_file_build.proofs.Fitting.{more_fit}
use Rattle.jx_file_build.proofs.blocks.OpenBlock.add.Goals as goal

pub returns-clause-fits : goal.returns-clause-fits
returns-clause-fits c = λ few was.
    let low = c.if-len-most.false in
    let l = c.len.ensures in
    more_fit c.args.self.is_full c.args.self.keys.items c.add_keys.new.keys.items c.args.most
    c.if-is_full.false c.in_ok-add_keys.ensures.words (omega (arith, low, l)) few was
