-- Verdicts as C sees them: a kind, and an offset where the kind has one.
use Rattle.std.specs.Prelude.{◌≡◌, ◌==◌, ◌&&◌, ℕ, List, Option, None, Some, if◌then◌else◌}
use Rattle.jx_run.specs.declared.texts.settings.Settings.{Settings}
use Rattle.jx_run.specs.declared.texts.verdict.Verdict.{Verdict}
use Rattle.jx_run.specs.declared.texts.verdict.Verdict.TheVariants.{Accepted, Refused}
use Rattle.jx_run.specs.declared.texts.verdict.Refusal.{Refusal}
use Rattle.jx_run.specs.declared.texts.verdict.Refusal.TheVariants.{Stopped, Truncated, TooDeep, RepeatedName}
use Rattle.jx_index.specs.ByNames.{IsVerdictBy}
use Rattle.jx_c.specs.declared.shapes.verdict.JxVerdict.{JxVerdict}

abbrev pub shown : Verdict → JxVerdict
shown Accepted = record { offset = 0; kind = 0 }
shown (Refused (Stopped at)) = record { offset = at; kind = 1 }
shown (Refused Truncated) = record { offset = 0; kind = 2 }
shown (Refused (TooDeep at)) = record { offset = at; kind = 3 }
shown (Refused (RepeatedName at)) = record { offset = at; kind = 6 }

-- the refusal that it shows, if it shows one of a text
abbrev pub refusal_in : JxVerdict → Option Refusal
refusal_in v =
    if v.kind == 1 then Some (Stopped v.offset)
    else (if (v.kind == 2) && (v.offset == 0) then Some Truncated
    else (if v.kind == 3 then Some (TooDeep v.offset)
    else (if v.kind == 6 then Some (RepeatedName v.offset) else None)))

-- it shows the verdict by settings on these bytes
abbrev pub IsVerdictOn : Settings → List ℕ → JxVerdict → Type 0
IsVerdictOn settings bytes v = (verdict : Verdict) × (IsVerdictBy settings bytes verdict × (v ≡ shown verdict))
