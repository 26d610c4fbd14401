-- How many bytes of an input are before its first fault.
use Rattle.std.specs.Prelude.{◌≤◌, ℕ, ◌-◌, List, [], take, if◌then◌else◌, nat_lt, Option, Some, None, Bool, true, false}
use Rattle.jx_run.specs.declared.texts.verdict.Verdict.{Verdict}
use Rattle.jx_run.specs.declared.texts.verdict.Verdict.TheVariants.{Accepted, Refused}
use Rattle.jx_run.specs.declared.texts.verdict.Refusal.TheVariants.{Stopped, Truncated, TooDeep, RepeatedName}
use Rattle.jx_each.specs.declared.stand.Stage.{Stage}
use Rattle.jx_each.specs.declared.stand.Stage.TheVariants.{Ahead, Elements, Members, Array, Object, Name, Pair, Names, Empties, Over}
use Rattle.jx_each.specs.declared.stand.LineStand.{LineStand}
use Rattle.jx_each.specs.declared.each.Each.TheInside.{Inside}
use Rattle.jx_each.specs.inside.Paths.{count_in}

-- by the verdict on so many bytes
abbrev pub sound : Verdict → ℕ → ℕ
sound Accepted count = count
sound (Refused Truncated) count = count
sound (Refused (RepeatedName at)) count = count
sound (Refused (Stopped at)) count = at
sound (Refused (TooDeep at)) count = at

-- of a slice after a count of bytes, those that are sound too
abbrev pub sound_part : List ℕ → ℕ → ℕ → ℕ → List ℕ
sound_part slice before count after = if nat_lt before count then [] else take (after - count) slice

-- no more containers are open, and no more elements were passed, than bytes were read
abbrev pub IsLow : ℕ → Option LineStand → Type 0
IsLow count None = Unit {0}
IsLow count (Some stand) = (stand.height ≤ count) × (count_in stand.stage ≤ count)

-- a container was opened, as far as tokens lead
abbrev pub has_begun : Stage → Bool
has_begun (Ahead level) = false
has_begun (Elements level n) = true
has_begun (Members level) = true
has_begun Array = true
has_begun Object = true
has_begun Name = true
has_begun Pair = true
has_begun Names = true
has_begun Empties = true
has_begun Over = true

abbrev pub IsLawful : Inside → Type 0
IsLawful each = IsLow each.reader.count each.stand
