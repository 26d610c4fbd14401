use Rattle.std.proofs.Common.{◌++◌, ◌∙◌, ℕ, List, ap}
use Rattle.jx_serve.specs.Words.{diagnostic, told_at, word_of_refusal}
use Rattle.jx_serve.proofs.Grown.{same_by}
use Rattle.jx_serve.proofs.reply_words.add_mark.Goals as goal

pub returns : goal.returns
returns c =
    let mark = c.args.mark.now in
    let o : List ℕ = c.args.out.now.items in
    let told : List ℕ → List ℕ → List ℕ → List ℕ = λ word sentence place. o ++ told_at mark.start mark.end word sentence place in
    let word : List ℕ = c.code_of_refusal-word.result.now in
    let sentence : List ℕ = c.deref.result.now in
    let place : List ℕ = c.as_str.result.now in
    same_by c.add_told.result c.add_told.new.out.items (told word sentence place) (o ++ diagnostic mark) c.add_told.ensures
    (ap (λ (l : List ℕ). told l sentence place) c.code_of_refusal-word.ensures ∙ ap (λ (l : List ℕ). told (word_of_refusal mark.refusal) l place) c.deref.ensures.value
    ∙ ap (λ (l : List ℕ). told (word_of_refusal mark.refusal) mark.sentence.items l) (c.as_str.ensures.value ∙ c.in_ok-place.ensures))
