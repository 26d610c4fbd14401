use Rattle.std.proofs.Common.{List, ℕ, ◌++◌, take, false, sym, subst, refl}
use Rattle.jx_texts.specs.declared.text_reader.Stage.{Stage}
use Rattle.jx_texts.specs.inside.Steps.{FeedsOn}
use Rattle.jx_texts.specs.Reading.{HasTold, listed}
use Rattle.jx_texts.proofs.Lists.{take_first}
use Rattle.jx_texts.proofs.text_reader.TextReader.read_bare.Goals as goal

pub returns-then-at-eq0-clause-told : goal.returns-then-at-eq0-clause-told
returns-then-at-eq0-clause-told c = λ limit at bytes told h.
    let slice : List ℕ = c.args.slice.now in
    let first = take_first slice c.requires.some in
    subst (λ (n : ℕ). HasTold limit at (bytes ++ take n slice) (told ++ (listed c.in_ok-step.step.ended ++ listed c.in_ok-step.step.refused)) c.end_bare.new.self) (sym c.in_ok-step.ensures.taken)
    (subst (λ (xs : List ℕ). HasTold limit at (bytes ++ xs) (told ++ (listed c.in_ok-step.step.ended ++ listed c.in_ok-step.step.refused)) c.end_bare.new.self) (sym first)
    (c.in_ok-step.ensures.told limit at bytes told h))

pub read_some-requires-clause-feeds : goal.read_some-requires-clause-feeds
read_some-requires-clause-feeds c =
    subst (λ (s : Stage). FeedsOn (take c.border_at-at.result c.args.slice.now) false s) (sym c.requires.stage) (refl, c.border_at-at.ensures.none)
