use Rattle.std.proofs.Common.{refl, arith}
use Rattle.jx_run.proofs.readers.reader.Reader.new.Goals as goal

pub invariant_of-result : goal.invariant_of-result
invariant_of-result c =
    let read = c.progress_at_start.ensures.read c.args.settings.now c.args.start c.new.result refl c.new.ensures.depth c.new.ensures.reads in
    let low = c.ranges.start.fits in
    record { fits = omega (arith, low); cut = c.progress_at_start.ensures.cut; of_use = read.of_use }
