use Rattle.std.proofs.Common.{◌≡◌, ◌∙◌, ℕ, drop, sym, subst, refl}
use Rattle.jx_run.specs.declared.texts.settings.Front.{Front}
use Rattle.jx_run.specs.Front.{IsTold}
use Rattle.jx_run.specs.Verdict.{Judged}
use Rattle.jx_line_values.specs.inside.Adding.{settings_with}
use Rattle.jx_line_values.proofs.Marks.{skipped}
use Rattle.jx_line_values.proofs.answering.refused_front.Goals as goal

pub returns-in-Skip-clause-none : goal.returns-in-Skip-clause-none
returns-in-Skip-clause-none c = λ task v j.
    let mark = c.args.mark in
    let bytes = c.args.bytes.now in
    let n : ℕ = c.in-Skip.field-0 in
    let told = subst (λ (f : Front). IsTold mark bytes f) c.in-Skip.is c.front.ensures.verdict in
    let zero : n ≡ 0 = skipped mark bytes n (sym c.front.ensures.value ∙ c.in-Skip.is) ∙ c.requires in
    told.1 (settings_with task mark) v refl (subst (λ (k : ℕ). Judged k (drop k bytes) task.settings.depth v) (sym zero) j)

pub returns-in-Refused-clause-some : goal.returns-in-Refused-clause-some
returns-in-Refused-clause-some c = λ task.
    let mark = c.args.mark in
    let told = subst (λ (f : Front). IsTold mark c.args.bytes.now f) c.in-Refused.is c.front.ensures.verdict in
    told (settings_with task mark) refl
