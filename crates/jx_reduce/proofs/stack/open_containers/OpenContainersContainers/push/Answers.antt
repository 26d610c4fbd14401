use Rattle.std.proofs.Common.{◌∙◌, ap, arith}
use Rattle.std.specs.Prelude.{reverse}
use Rattle.jx_reduce.specs.Bits.{in_words}
use Rattle.jx_reduce.proofs.KnownWords.{word_more, word_one, spilled, pushed}
use Rattle.jx_reduce.proofs.stack.open_containers.OpenContainersContainers.push.Goals as goal

pub returns-then-self-lt-WORD-clause-ok : goal.returns-then-self-lt-WORD-clause-ok
returns-then-self-lt-WORD-clause-ok c =
    word_more c.self.inside.count c.self.inside.bits c.bit_of-bit.result _ c.bit_of-bit.ensures.within
    ∙ pushed _ _ _ _ c.bit_of-bit.ensures.holder c.self.view_is

pub returns-in_ok-push_word-clause-ok : goal.returns-in_ok-push_word-clause-ok
returns-in_ok-push_word-clause-ok c =
    word_one c.bit_of-bit.result _ c.bit_of-bit.ensures.within
    ∙ pushed _ _ _ _ c.bit_of-bit.ensures.holder
    (ap (λ ws. in_words (reverse ws)) c.in_ok-push_word.ensures.ok
    ∙ spilled c.self.inside.count c.self.inside.bits c.self.inside.words.items (omega arith)
    ∙ c.self.view_is)
