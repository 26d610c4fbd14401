-- The tests that parts of forms must pass.
use Rattle.std.specs.Prelude.{◌≡◌, ℕ, ◌+◌, Bool, true, not, ◌&&◌, ◌||◌, nat_le, nat_lt, Option, None, Some, is_some, length, if◌then◌else◌}
use Rattle.std.specs.List.{list_all}
use Rattle.jx_reduce.specs.Form.{Form, level_of}
use Rattle.jx_reduce.specs.Join.{all_faulted}
use Rattle.jx_reduce.specs.declared.forms.ended_level.EndedLevel.{EndedLevel}
use Rattle.jx_reduce.specs.declared.forms.level.Level.{Level}
use Rattle.jx_reduce.specs.declared.forms.checks.Bound.{Bound}
use Rattle.jx_reduce.specs.declared.forms.checks.Bound.TheVariants.{Above, Below}

abbrev pub is_in : Bound → ℕ → Bool
is_in (Above low) p = nat_lt low p
is_in (Below high) p = nat_lt p high

abbrev pub IsIn : Bound → ℕ → Type 0
IsIn b p = is_in b p ≡ true

abbrev pub is_fault_in : Bound → Option ℕ → Bool
is_fault_in b None = true
is_fault_in b (Some p) = is_in b p

abbrev pub is_level_in : Bound → Level → Bool
is_level_in b f = (is_fault_in b f.array && is_fault_in b f.object) && is_fault_in b f.bottom

abbrev pub is_end_in : Bound → EndedLevel → Bool
is_end_in b e = is_level_in b (level_of e)

-- each offset that is kept lies there
abbrev pub is_form_in : Bound → Form → Bool
is_form_in b r = (list_all (is_end_in b) r.ended && is_level_in b r.last) && list_all (is_in b) r.heights

-- so many levels have ended, containers are open and heights are kept as a depth allows
abbrev pub is_small : ℕ → ℕ → ℕ → ℕ → Bool
is_small d ended opens heights = ((nat_le ended d && nat_le opens d) && nat_le heights (d + 1)) && nat_le opens (ended + heights)

-- where something goes on some holder has not faulted, and where nothing does all have, or the heights decide
abbrev pub is_decided : ℕ → Form → Bool
is_decided d r = if is_some r.exit then not (all_faulted r.last) else (all_faulted r.last || nat_lt d (length r.ended + length r.heights))
