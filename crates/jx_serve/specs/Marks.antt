-- How a verdict is shown.
use Rattle.std.specs.Prelude.{◌≡◌, ◌≤◌, ◌<◌, ◌+◌, ◌-◌, ℕ, List, Option, None, Some, length}
use Rattle.jx_edit.specs.Positions.{position_at}
use Rattle.jx_edit.specs.declared.positions.encoding.Encoding.{Encoding}
use Rattle.jx_run.specs.declared.texts.verdict.Refusal.{Refusal}
use Rattle.jx_run.specs.declared.texts.verdict.Refusal.TheVariants.{Stopped, Truncated, TooDeep, RepeatedName}
use Rattle.jx_run.specs.declared.texts.verdict.Verdict.{Verdict}
use Rattle.jx_run.specs.declared.texts.verdict.Verdict.TheVariants.{Accepted, Refused}
use Rattle.jx_serve.specs.declared.mark.Mark.{Mark}

-- the verdict that a diagnostic reports, or none
abbrev pub told : Option Mark → Verdict
told None = Accepted
told (Some mark) = Refused mark.refusal

-- the offset at which a refusal is shown: its own, and that of the last byte where more has to follow
abbrev pub shown_at : List ℕ → Refusal → ℕ
shown_at bytes (Stopped at) = at
shown_at bytes Truncated = length bytes - 1
shown_at bytes (TooDeep at) = at
shown_at bytes (RepeatedName at) = at

-- a diagnostic has the positions of both ends of some bytes, at most those of one character, with the byte at the offset among them
pub record IsPlaced (e : Encoding) (bytes : List ℕ) (mark : Mark) : Type 0 where
  pub from : ℕ
  pub to : ℕ
  pub begins : from ≤ shown_at bytes mark.refusal
  pub holds : shown_at bytes mark.refusal < length bytes → shown_at bytes mark.refusal < to
  pub short : to ≤ from + 4
  pub start_is : mark.start ≡ position_at e bytes from
  pub end_is : mark.end ≡ position_at e bytes to
