use Rattle.jx_file_build.proofs.NamesRead.{none_begun}
use Rattle.jx_file_build.proofs.Readings.{none_entered}
use Rattle.jx_file_build.proofs.held.Held.new.Goals as goal

pub invariant_of-result : goal.invariant_of-result
invariant_of-result c =
    let names = c.names_if_asked.ensures in
    record { turn = none_begun c.new.result c.names_if_asked.result c.new.ensures.reads names.begun; fit = names.fits }

pub returns : goal.returns
returns c = λ size.
    none_entered c.args.has_names c.args.settings.now size _ (record { by = c.new.ensures.settings; start = c.new.ensures.start; read = c.new.ensures.reads }) c.new-2.ensures.items (c.names_if_asked.ensures.names size)
