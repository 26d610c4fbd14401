use Rattle.std.proofs.Common.{◌≡◌, ℕ, suc, ◌+◌, ◌<◌, List, length, refl, sym, subst, ◌∙◌, arith}
use Rattle.std.proofs.lemmas.List.{length-set}
use Rattle.std.specs.Prelude.{slice_set}
use Rattle.jx_answer.specs.declared.element.Element.{Element}
use Rattle.jx_answer.specs.Sequence.{IsElement}
use Rattle.jx_answer.specs.Settled.{IsElementBy}
use Rattle.jx_answer.proofs.ByNames.{element_told}
use Rattle.jx_run.proofs.InPlace.{Passed, all_passed, pass_one}
use Rattle.jx_answer.proofs.bytes.by_names.elements_by_names.Goals as goal

pub loop-at-preserved : goal.loop-at-preserved
loop-at-preserved c =
    let l = c.loop-at in
    let xs : List Element = l.elements.items in
    let x : Element = c.index_mut.result.now in
    let y : Element = record x { answer = c.element_by_names.new.answer } in
    let low : l.at < length xs = omega arith in
    let next : suc l.at ≡ l.at + 1 = omega arith in
    record {
      long = length-set xs l.at y ∙ l.invariant.long;
      passed = λ settings input ps is z.
          subst (λ (n : ℕ). Passed (IsElement input settings.depth) (IsElementBy settings input) n ps (slice_set xs l.at y)) next
          (pass_one (IsElement input settings.depth) (IsElementBy settings input) l.at ps xs x y low (l.invariant.passed settings input ps is z)
          (λ p k.
          element_told settings c.args.rule input p x y is (subst (λ (e : Element). IsElement input settings.depth p e) (sym c.index_mut.ensures.value) k) refl
          c.element_by_names.ensures));
    }

pub returns : goal.returns
returns c = λ settings input ps is z.
    all_passed (IsElement input settings.depth) (IsElementBy settings input) c.loop-at.at ps c.loop-at.elements.items (omega arith) (c.loop-at.invariant.passed settings input ps is z)
