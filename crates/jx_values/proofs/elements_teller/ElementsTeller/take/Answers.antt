use Rattle.std.proofs.Common.{◌++◌, refl}
use Rattle.std.proofs.lemmas.Result.{on_ok_weaker}
use Rattle.jx_values.specs.inside.Sought.{any_names}
use Rattle.jx_values.proofs.ElementsTold.{makes}
use Rattle.jx_values.proofs.elements_teller.ElementsTeller.take.Goals as goal

pub returns : goal.returns
returns g c = record {
  taken = on_ok_weaker c.show.result
      (λ shows by_texts content settings pointer bytes given h.
      shows by_texts content settings pointer (bytes ++ c.args.slice.now) given
      (makes by_texts content settings pointer bytes given c.args.slice.now c.args.self.now _ h.made refl refl c.feed_shared.ensures.settings
      (λ lines. c.in_ok-feed_shared.ensures.taken content pointer bytes lines)
      (c.in_ok-seek.ensures content (any_names settings) pointer bytes)))
      c.show.ensures;
}
