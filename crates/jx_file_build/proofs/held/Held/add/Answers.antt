use Rattle.std.proofs.Common.{length, subst, sym}
use Rattle.jx_file_build.specs.Held.{AreWhole, held_of}
use Rattle.jx_file_build.proofs.Readings.{one_entered}
use Rattle.jx_file_build.proofs.held.Held.add.Goals as goal

pub returns-clause-entered : goal.returns-clause-entered
returns-clause-entered c = λ has_names settings size bytes was fits.
    let a = c.self.inside in
    let chunk = c.args.chunk.now in
    let k : AreWhole has_names settings size bytes (held_of a) = subst (AreWhole has_names settings size bytes) (sym c.self.view_is) was in
    one_entered has_names settings size bytes chunk (held_of a) _ c.in_ok-read.read.entry k fits c.in_ok-read.ensures.reads c.in_ok-push.ensures.items c.in_ok-read.ensures.entry
    (c.in_ok-read.ensures.named has_names settings size bytes (length a.entries.items) k.whole fits k.entered.read k.entered.names)
