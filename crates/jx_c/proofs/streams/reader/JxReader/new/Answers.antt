use Rattle.std.proofs.Common.{◌≡◌, [], refl, arith}
use Rattle.jx_c.specs.Stack.{known_of}
use Rattle.jx_c.proofs.ReaderSteps.{has_read}
use Rattle.jx_c.proofs.streams.reader.JxReader.new.Goals as goal

pub returns : goal.returns
returns c =
    let settings = c.args.settings.now in
    let stack = c.new.result in
    let depth : stack.depth ≡ settings.depth = omega (arith, c.new.ensures.depth, c.containers.ensures.value, c.containers.ensures.within) in
    has_read settings [] c.set_progress.new.self c.progress_at_start.result stack c.set_progress.ensures.started c.set_progress.ensures.count c.set_progress.ensures.progress c.set_progress.ensures.stack
    (c.progress_at_start.ensures.read settings 0 (known_of stack) refl depth c.new.ensures.reads)
