use Rattle.std.proofs.Common.{◌≡◌, ℕ, suc, ◌+◌, ◌<◌, List, length, refl, sym, subst, ◌∙◌, arith}
use Rattle.std.specs.Prelude.{slice_set}
use Rattle.std.proofs.lemmas.List.{length-set}
use Rattle.jx_run.specs.declared.sequences.element_verdict.JudgedElement.{JudgedElement}
use Rattle.jx_run.specs.Elements.{Part}
use Rattle.jx_run.specs.MarkAlone.{elements_by}
use Rattle.jx_index.specs.ByNames.{IsJudgedBy}
use Rattle.jx_index.specs.inside.JudgedIn.{IsJudgedIn}
use Rattle.jx_run.proofs.InPlace.{Passed, all_passed, next_of, pass_one}
use Rattle.jx_index.proofs.RefusedNames.{judged_in}
use Rattle.jx_index.proofs.judging.judged_by_names.Goals as goal

pub loop-at-init : goal.loop-at-init
loop-at-init c = record {
  long = refl;
  passed = judged_in c.args.settings.now.mark c.args.input.now c.args.settings.now.depth c.args.elements.items c.requires.elements;
}

pub element_by_names-requires : goal.element_by_names-requires
element_by_names-requires c =
    let text = c.args.input.now in
    let settings = c.args.settings.now in
    let l = c.loop-at in
    let xs : List JudgedElement = l.elements.items in
    let x : JudgedElement = c.index.result.now in
    let low : l.at < length xs = omega arith in
    let next = next_of (IsJudgedIn text settings.depth) (IsJudgedBy settings text) l.at (elements_by settings.mark text) xs x low l.invariant.passed in
    (next.0, subst (λ (e : JudgedElement). IsJudgedIn text settings.depth next.0 e) (sym c.index.ensures) next.1)

pub loop-at-preserved : goal.loop-at-preserved
loop-at-preserved c =
    let text = c.args.input.now in
    let settings = c.args.settings.now in
    let l = c.loop-at in
    let ps : List Part = elements_by settings.mark text in
    let xs : List JudgedElement = l.elements.items in
    let x : JudgedElement = c.index.result.now in
    let y : JudgedElement = c.in_ok-elements.field-0 in
    let low : l.at < length xs = omega arith in
    let next : suc l.at ≡ l.at + 1 = omega arith in
    record {
      long = length-set xs l.at y ∙ l.invariant.long;
      passed = subst (λ (n : ℕ). Passed (IsJudgedIn text settings.depth) (IsJudgedBy settings text) n ps (slice_set xs l.at y)) next
          (pass_one (IsJudgedIn text settings.depth) (IsJudgedBy settings text) l.at ps xs x y low l.invariant.passed
          (λ p k. c.in_ok-elements.ensures p (subst (λ (e : JudgedElement). IsJudgedIn text settings.depth p e) (sym c.index.ensures) k)));
    }

pub returns : goal.returns
returns c =
    let text = c.args.input.now in
    let settings = c.args.settings.now in
    let l = c.loop-at in
    record {
      elements = all_passed (IsJudgedIn text settings.depth) (IsJudgedBy settings text) l.at (elements_by settings.mark text) l.elements.items (omega arith) l.invariant.passed;
    }
