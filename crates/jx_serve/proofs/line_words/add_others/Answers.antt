use Rattle.std.proofs.Common.{◌∷◌, ◌++◌, ◌∙◌, ℕ, List, [], ap, codes, refl, sym, take}
use Rattle.std.specs.List.{flat_map}
use Rattle.std.proofs.lemmas.List.{flat_map_more, take_more}
use Rattle.jx_serve.specs.Words.{line_diagnostic, next_diagnostic}
use Rattle.jx_serve.specs.declared.line_mark.LineMark.{LineMark}
use Rattle.jx_serve.proofs.Grown.{grown}
use Rattle.jx_serve.proofs.line_words.add_others.Goals as goal

pub loop-mark-preserved : goal.loop-mark-preserved
loop-mark-preserved c =
    let o : List ℕ = c.args.out.now.items in
    let marks : List LineMark = c.args.marks.now in
    let i = c.loop-mark.mark-index in
    let mark : LineMark = c.mark-item.result in
    let d : List ℕ = line_diagnostic mark in
    grown c.loop-mark.out.items c.extend_from_slice.new.self.items c.add_line_mark.new.out.items (codes ",") d d c.in_ok-extend_from_slice.ensures.items c.in_ok-add_line_mark.ensures refl
    ∙ ap (λ (l : List ℕ). l ++ next_diagnostic mark) c.loop-mark.invariant ∙ flat_map_more next_diagnostic o (take i marks) mark
    ∙ ap (λ (m : LineMark). o ++ flat_map next_diagnostic (take i marks ++ m ∷ [])) c.mark-item.is
    ∙ ap (λ (l : List LineMark). o ++ flat_map next_diagnostic l) (sym (take_more marks i mark c.loop-mark-test.true))
