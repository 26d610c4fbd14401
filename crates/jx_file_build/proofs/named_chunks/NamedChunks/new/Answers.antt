use Rattle.std.proofs.Common.{refl}
use Rattle.jx_file_build.proofs.NamesRead.{none_told}
use Rattle.jx_file_build.proofs.named_chunks.NamedChunks.new.Goals as goal

pub returns-clause-told : goal.returns-clause-told
returns-clause-told c = λ size.
    let settings = c.args.settings.now in
    none_told settings size _ c.new.ensures refl c.new-3.ensures.are (c.slices_are_told_in_turn.ensures.none settings.mark)

pub returns-clause-fits : goal.returns-clause-fits
returns-clause-fits c = record { few = c.most_names.ensures.few; fit = c.new-3.ensures.fits }
