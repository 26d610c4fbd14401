use Rattle.std.proofs.Common.{◌≡◌, [], ap, refl, sym, ◌∙◌, arith}
use Rattle.jx_reduce.specs.KnownStack.{HasRead as StackHasRead}
use Rattle.jx_run.specs.declared.readers.reader.Reader.TheInside.{Inside}
use Rattle.jx_run.proofs.ReaderSteps.{depth_of}
use Rattle.jx_run.proofs.readers.reader.Reader.reset.Goals as goal
use Rattle.jx_run.proofs.readers.reader.Reader.reset.Goals.{in-Failed, in_default}

pub invariant_of-self : goal.invariant_of-self
invariant_of-self c =
    let a = c.self.inside in
    let b = c.match-self.self-inside in
    let low = c.ranges.start.fits in
    let deep : b.stack.depth ≡ b.settings.depth =
    elim c.match-self.branch [
      | in-Failed w ↦ ap (λ (i : Inside). i.stack.depth) w.self-inside-is ∙ w.new.ensures.depth ∙ sym (ap (λ (i : Inside). i.settings.depth) w.self-inside-is)
      | in_default w ↦
          ap (λ (i : Inside). i.stack.depth) w.self-inside-is
          ∙ w.reset.ensures.depth
          ∙ depth_of a.progress a.settings.mark a.settings.depth a.stack w.in_default.not-Failed c.self.invariant.of_use
          ∙ sym (ap (λ (i : Inside). i.settings.depth) w.self-inside-is)
    ] in
    let none : StackHasRead [] b.stack =
    elim c.match-self.branch [
      | in-Failed w ↦ ap (λ (i : Inside). i.stack.reading) w.self-inside-is ∙ w.new.ensures.reads
      | in_default w ↦ ap (λ (i : Inside). i.stack.reading) w.self-inside-is ∙ w.reset.ensures.reads
    ] in
    let read = c.progress_at_start-self-inside.ensures.read b.settings c.args.start b.stack refl deep none in
    record { fits = omega (arith, low); cut = c.progress_at_start-self-inside.ensures.cut; of_use = read.of_use }
