use Rattle.std.proofs.Common.{◌≡◌, ◌++◌, ◌∙◌, ℕ, List, ap, subst, sym}
use Rattle.std.specs.String.{string_bytes}
use Rattle.jx_sentence.specs.Sentences.{IsSentence}
use Rattle.jx_c.proofs.texts.explain.sentence_of.Goals as goal

pub returns : goal.returns
returns c =
    let told = c.in_ok-push_sentence.ensures in
    let whole : string_bytes c.push_sentence.new.out ≡ told.0 = told.1.1 ∙ ap (λ (l : List ℕ). l ++ told.0) c.new-said.ensures.bytes in
    subst (λ (l : List ℕ). IsSentence c.args.settings.now c.args.text.now c.args.refusal l) (sym whole) told.1.0
