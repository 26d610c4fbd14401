use Rattle.std.proofs.Common.{◌≡◌, ◌+◌, ◌-◌, ◌<◌, suc, length, ap, ◌∙◌, arith, Option, None, Some}
use Rattle.std.specs.Prelude.{slice_range, IfNone}
use Rattle.std.proofs.lemmas.List.Edits.{length-between}
use Rattle.jx_run.specs.Elements.{parts}
use Rattle.jx_run.proofs.SeqReading.{none-after, first-before, first-after, slice-take, slice-drop}
use Rattle.jx_run.proofs.sequences.separators.next_separator.Goals as goal

if_none : {X : Type 0} (o : Option X) (P : Type 0) → P → IfNone o P
if_none None P h = h
if_none (Some x) P h = tt

pub returns-in_err-skipped-clause-none : goal.returns-in_err-skipped-clause-none
returns-in_err-skipped-clause-none c =
    if_none c.from_residual.result _ (none-after (slice_range c.args.text.now c.args.start c.args.end) c.args.start (λ k low m. c.in_err-skipped.ensures k (omega arith) low m))

pub returns-clause-before : goal.returns-clause-before
returns-clause-before c =
    let bytes = slice_range c.args.text.now c.args.start c.args.end in
    let k = c.in_ok-skipped.skipped in
    let found = c.in_ok-skipped.ensures in
    let high : k < length bytes = found.0.high in
    let long : length bytes ≡ c.args.end - c.args.start = length-between c.args.text.now c.args.start c.args.end c.requires.within in
    first-before bytes k high (λ j low m. found.0.before j (omega arith) low m) found.1
    ∙ slice-take c.args.text.now c.args.start c.args.end k (omega arith)

pub returns-clause-behind : goal.returns-clause-behind
returns-clause-behind c =
    let bytes = slice_range c.args.text.now c.args.start c.args.end in
    let k = c.in_ok-skipped.skipped in
    let found = c.in_ok-skipped.ensures in
    let high : k < length bytes = found.0.high in
    let long : length bytes ≡ c.args.end - c.args.start = length-between c.args.text.now c.args.start c.args.end c.requires.within in
    let next : c.args.start + suc k ≡ c.args.start + k + 1 = omega arith in
    first-after bytes k c.args.start high (λ j low m. found.0.before j (omega arith) low m) found.1
    ∙ ap (parts (c.args.start + k + 1)) (slice-drop c.args.text.now c.args.start c.args.end (suc k) (omega arith) ∙ ap (λ n. slice_range c.args.text.now n c.args.end) next)
