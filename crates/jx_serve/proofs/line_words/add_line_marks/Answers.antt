use Rattle.std.proofs.Common.{◌≡◌, ◌++◌, ◌∙◌, ℕ, List, ap, refl, sym}
use Rattle.std.specs.List.{flat_map}
use Rattle.jx_serve.specs.Words.{line_diagnostic, line_diagnostics, more_diagnostic, next_diagnostic}
use Rattle.jx_serve.specs.declared.line_mark.LineMark.{LineMark}
use Rattle.jx_serve.proofs.Grown.{grown, same_by}
use Rattle.jx_serve.proofs.line_words.add_line_marks.Goals as goal

pub returns-in_ok-add_others-in-Some : goal.returns-in_ok-add_others-in-Some
returns-in_ok-add_others-in-Some c =
    let o : List ℕ = c.args.out.now.items in
    let a : List ℕ = line_diagnostic c.in-Some.first.now in
    let b : List ℕ = flat_map next_diagnostic c.in-Some.others.now in
    let d : List ℕ = more_diagnostic c.in-Some.first.now c.args.more in
    let n2 : List ℕ = c.add_others.new.out.items in
    let two : n2 ≡ o ++ (a ++ b) = grown o c.add_line_mark.new.out.items n2 a b b c.in_ok-add_line_mark-in-Some.ensures c.in_ok-add_others-in-Some.ensures refl in
    same_by c.add_more.result c.add_more.new.out.items (n2 ++ d) (o ++ line_diagnostics c.args.marks.now c.args.more) c.add_more.ensures
    (grown o n2 (n2 ++ d) (a ++ b) d d two refl refl ∙ ap (λ (l : List LineMark). o ++ line_diagnostics l c.args.more) (sym c.in-Some.ensures.cases.0))
