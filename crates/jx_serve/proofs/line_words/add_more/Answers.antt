use Rattle.std.proofs.Common.{◌≡◌, ◌++◌, ◌∙◌, ℕ, Bool, List, [], ap, append_assoc, arith, codes, cond, false, sym}
use Rattle.std.specs.Prelude.{◌==◌}
use Rattle.std.proofs.lemmas.Bool.Decides.{nat_tests}
use Rattle.jx_serve.specs.Words.{more_diagnostic, told_at, words_of_more}
use Rattle.jx_serve.proofs.Grown.{same_by}
use Rattle.jx_serve.proofs.line_words.add_more.Goals as goal

pub returns : goal.returns
returns c =
    let first = c.args.first.now in
    let o : List ℕ = c.args.out.now.items in
    let told : List ℕ → List ℕ = λ sentence. told_at first.start first.end (codes "more") sentence [] in
    let comma : List ℕ = codes "," in
    let not_none : (c.args.more == 0) ≡ false = grind (arith, nat_tests, c.if-more-eq0.false) in
    same_by c.add_told.result c.add_told.new.out.items (c.extend_from_slice.new.self.items ++ told c.as_bytes.result.now) (o ++ more_diagnostic first c.args.more) c.add_told.ensures
    (ap (λ (l : List ℕ). l ++ told c.as_bytes.result.now) c.in_ok-extend_from_slice.ensures.items
    ∙ append_assoc o comma (told c.as_bytes.result.now)
    ∙ ap (λ (l : List ℕ). o ++ (comma ++ told l)) (c.as_bytes.ensures.value ∙ c.in_ok-sentence.ensures)
    ∙ ap (λ (t : Bool). o ++ cond t [] (comma ++ told (words_of_more c.args.more))) (sym not_none))
