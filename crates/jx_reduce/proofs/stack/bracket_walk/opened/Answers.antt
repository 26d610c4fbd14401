use Rattle.std.proofs.Common.{◌∙◌, ◌∷◌, ◌++◌, ap}
use Rattle.jx_reduce.specs.Bits.{in_word}
use Rattle.jx_reduce.proofs.KnownWords.{word_more}
use Rattle.jx_reduce.proofs.stack.bracket_walk.opened.Goals as goal

pub returns-clause-opened : goal.returns-clause-opened
returns-clause-opened c = λ rest.
    let i = c.args.inner in
    let b = c.bit_of in
    word_more i.count i.bits b.result rest b.ensures.within ∙ ap (λ h. h ∷ (in_word i.count i.bits ++ rest)) b.ensures.container
