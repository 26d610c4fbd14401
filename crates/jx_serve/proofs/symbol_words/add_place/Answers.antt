use Rattle.jx_serve.proofs.Texts.{added_place}
use Rattle.jx_serve.proofs.symbol_words.add_place.Goals as goal

pub returns : goal.returns
returns c =
    added_place c.args.out.now.items c.extend_from_slice.new.self.items c.add_number.new.out.items c.extend_from_slice-2.new.self.items c.args.place c.ranges.place.fits
    c.in_ok-extend_from_slice.ensures.items c.in_ok-add_number.ensures.words c.in_ok-extend_from_slice-2.ensures.items
