-- A reduced form whose offsets grow by so many bytes, where they fit a word.
use Rattle.std.specs.Prelude.{ℕ, ◌+◌, ◌-◌, ◌^◌, min, Option, Some, None, map}
use Rattle.jx_reduce.specs.Form.{Form}
use Rattle.jx_reduce.specs.declared.forms.level.Level.{Level}
use Rattle.jx_reduce.specs.declared.forms.ended_level.EndedLevel.{EndedLevel}

abbrev pub shifted_offset : ℕ → ℕ → ℕ
shifted_offset by at = min (by + at) (2 ^ 64 - 1)

abbrev pub shifted_fault : ℕ → Option ℕ → Option ℕ
shifted_fault by None = None
shifted_fault by (Some at) = Some (shifted_offset by at)

abbrev pub shifted_level : ℕ → Level → Level
shifted_level by f = record { array = shifted_fault by f.array; object = shifted_fault by f.object; bottom = shifted_fault by f.bottom }

abbrev pub shifted_end : ℕ → EndedLevel → EndedLevel
shifted_end by f = record { array = shifted_fault by f.array; object = shifted_fault by f.object; bottom = shifted_offset by f.bottom }

abbrev pub shifted_form : ℕ → Form → Form
shifted_form by r = record { ended = map (shifted_end by) r.ended; last = shifted_level by r.last; opens = r.opens; exit = r.exit; heights = map (shifted_offset by) r.heights }
