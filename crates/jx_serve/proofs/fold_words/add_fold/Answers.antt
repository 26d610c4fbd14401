use Rattle.std.proofs.Common.{decimal}
use Rattle.jx_serve.proofs.Ranges.{added_lines}
use Rattle.jx_serve.proofs.fold_words.add_fold.Goals as goal

pub returns : goal.returns
returns c =
    added_lines c.args.out.now.items c.extend_from_slice.new.self.items c.add_number.new.out.items c.extend_from_slice-2.new.self.items c.add_number-2.new.out.items c.extend_from_slice-3.new.self.items
    (decimal c.args.first) (decimal c.args.last) c.in_ok-extend_from_slice.ensures.items c.in_ok-add_number.ensures.words c.in_ok-add_number.ensures.number c.in_ok-extend_from_slice-2.ensures.items
    c.in_ok-add_number-2.ensures.words c.in_ok-add_number-2.ensures.number c.in_ok-extend_from_slice-3.ensures.items
