-- A verdict shows one refusal at most.
use Rattle.std.proofs.Common.{◌≡◌, Some, refl, ap, ◌∙◌}
use Rattle.jx_run.specs.declared.texts.verdict.Refusal.{Refusal}
use Rattle.jx_run.specs.declared.texts.verdict.Refusal.TheVariants.{Stopped, Truncated, TooDeep, RepeatedName}
use Rattle.jx_run.specs.declared.texts.verdict.Verdict.TheVariants.{Refused}
use Rattle.jx_c.specs.Verdict.{refusal_in, shown}
use Rattle.jx_c.specs.declared.shapes.verdict.JxVerdict.{JxVerdict}

back : (refusal : Refusal) → refusal_in (shown (Refused refusal)) ≡ Some refusal
back (Stopped at) = refl
back Truncated = refl
back (TooDeep at) = refl
back (RepeatedName at) = refl

pub shown_back : (v : JxVerdict) (refusal : Refusal) → v ≡ shown (Refused refusal) → refusal_in v ≡ Some refusal
shown_back v refusal is = ap refusal_in is ∙ back refusal
