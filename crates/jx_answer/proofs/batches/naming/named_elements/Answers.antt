use Rattle.std.proofs.Common.{◌≡◌, ℕ, suc, ◌+◌, ◌<◌, List, length, refl, sym, subst, ◌∙◌, arith}
use Rattle.std.specs.Prelude.{slice_range, slice_set}
use Rattle.std.proofs.lemmas.List.{length-set}
use Rattle.jx_run.specs.declared.sequences.element_verdict.JudgedElement.{JudgedElement}
use Rattle.jx_run.proofs.InPlace.{Passed, all_passed, next_of, pass_one}
use Rattle.jx_answer.specs.Named.{IsNamed}
use Rattle.jx_answer.proofs.NamedThere.{all_named, elements_next, named_all, slice_in_part, Between, IsNext}
use Rattle.jx_answer.proofs.batches.naming.named_elements.Goals as goal

pub returns-in-Any : goal.returns-in-Any
returns-in-Any c = record { named = λ input stands. all_named c.args.settings.now input c.args.elements.items c.in-Any.is }

pub loop-at-init : goal.loop-at-init
loop-at-init c = record {
  long = refl;
  passed = elements_next c.args.settings.now.depth c.args.before c.args.part.now c.args.elements.items c.requires.elements;
}

pub bytes_at-bytes-requires : goal.bytes_at-bytes-requires
bytes_at-bytes-requires c =
    let l = c.loop-at in
    let part = c.args.part.now in
    let low : l.at < length l.elements.items = omega arith in
    let Before = IsNext c.args.before (c.args.before + length part) in
    let next = next_of Before (λ told e. (input : List ℕ) → slice_range input c.args.before (c.args.before + length part) ≡ part → IsNamed c.args.settings.now input told e)
    l.at c.args.elements.items l.elements.items c.index-element.result.now low l.invariant.passed in
    let here = subst (λ (e : JudgedElement). Before next.0 e) (sym c.index-element.ensures) next.1 in
    let place : Between c.args.before (c.args.before + length part) c.index-element.result.now.span = subst (λ (e : JudgedElement). Between c.args.before (c.args.before + length part) e.span) (sym here.same) here.place in
    record { from = place.from; ordered = place.ordered; to = place.to }

pub loop-at-preserved : goal.loop-at-preserved
loop-at-preserved c =
    let l = c.loop-at in
    let part = c.args.part.now in
    let before = c.args.before in
    let settings = c.args.settings.now in
    let told : List JudgedElement = c.args.elements.items in
    let xs : List JudgedElement = l.elements.items in
    let x : JudgedElement = c.index-element.result.now in
    let y : JudgedElement = c.in_ok-elements.field-0 in
    let low : l.at < length xs = omega arith in
    let next : suc l.at ≡ l.at + 1 = omega arith in
    let Before = IsNext before (before + length part) in
    let After = λ (told e : JudgedElement). (input : List ℕ) → slice_range input before (before + length part) ≡ part → IsNamed settings input told e in
    record {
      long = length-set xs l.at y ∙ l.invariant.long;
      passed = subst (λ (n : ℕ). Passed Before After n told (slice_set xs l.at y)) next
          (pass_one Before After l.at told xs x y low l.invariant.passed
          (λ t k input stands.
          let here = subst (λ (e : JudgedElement). Before t e) (sym c.index-element.ensures) k in
          let place : Between before (before + length part) x.span = subst (λ (e : JudgedElement). Between before (before + length part) e.span) (sym here.same) here.place in
          subst (λ (e : JudgedElement). IsNamed settings input e y) here.same
          (c.in_ok-elements.ensures.named input (slice_in_part input part before x.span.start x.span.end stands place.from place.ordered place.to ∙ sym c.bytes_at-bytes.ensures.bytes))));
    }

pub returns : goal.returns
returns c =
    let l = c.loop-at in
    let part = c.args.part.now in
    let before = c.args.before in
    let settings = c.args.settings.now in
    let all = all_passed (IsNext before (before + length part)) (λ told e. (input : List ℕ) → slice_range input before (before + length part) ≡ part → IsNamed settings input told e)
    l.at c.args.elements.items l.elements.items (omega arith) l.invariant.passed in
    record {
      named = λ input stands. named_all settings (λ (input : List ℕ). slice_range input before (before + length part) ≡ part) input stands c.args.elements.items l.elements.items all;
    }
