use Rattle.std.proofs.Common.{◌+◌, List, ℕ, length, take, true, false, sym, subst, arith}
use Rattle.jx_texts.specs.declared.text_reader.Stage.{Stage}
use Rattle.jx_texts.specs.inside.Steps.{FeedsOn, absent}
use Rattle.jx_texts.proofs.Lists.{lacks_before, up_to}
use Rattle.jx_texts.proofs.text_reader.TextReader.read_closed.Goals as goal

pub read_some-requires-clause-feeds : goal.read_some-requires-clause-feeds
read_some-requires-clause-feeds c =
    let slice : List ℕ = c.args.slice.now in
    subst (λ (s : Stage). FeedsOn (take (length slice) slice) false s) (sym c.requires.stage)
    (absent (lacks_before c.args.byte slice (length slice) (λ j low m. c.in-None.ensures j (omega arith) low m)))

pub read_some-requires-in-Some-clause-feeds : goal.read_some-requires-in-Some-clause-feeds
read_some-requires-in-Some-clause-feeds c =
    let slice : List ℕ = c.args.slice.now in
    let at : ℕ = c.in-Some.at in
    let low = c.in-Some.ensures.0.high in
    subst (λ (s : Stage). FeedsOn (take (at + 1) slice) true s) (sym c.requires.stage)
    (up_to c.args.byte slice at low (λ j less m. c.in-Some.ensures.0.before j (omega arith) less m) c.in-Some.ensures.1)
