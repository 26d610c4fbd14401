-- How reduced forms are put together.
use Rattle.std.specs.Prelude.{ℕ, ◌+◌, ◌-◌, List, [], ◌∷◌, ◌++◌, Option, Some, None, length, take, drop, nat_lt, if◌then◌else◌, unwrap_or, is_some, Bool, not, ◌&&◌, ◌||◌}
use Rattle.jx_reduce.specs.Form.{Form, fault_of, end_fault_of}
use Rattle.jx_reduce.specs.declared.table.holder.Holder.{Holder}
use Rattle.jx_reduce.specs.declared.forms.entry.Entry.{Entry}
use Rattle.jx_reduce.specs.declared.forms.level.Level.{Level}
use Rattle.jx_reduce.specs.declared.forms.ended_level.EndedLevel.{EndedLevel}

abbrev pub first_of : Option ℕ → Option ℕ → Option ℕ
first_of None b = b
first_of (Some p) b = Some p

abbrev pub no_faults : Level
no_faults = record { array = None; object = None; bottom = None }

-- the earlier faults, and these where there are none
abbrev pub merged : Level → Level → Level
merged a b = record { array = first_of a.array b.array; object = first_of a.object b.object; bottom = first_of a.bottom b.bottom }

abbrev pub filled : Level → ℕ → Level
filled a p = record { array = Some (unwrap_or a.array p); object = Some (unwrap_or a.object p); bottom = Some (unwrap_or a.bottom p) }

abbrev pub closed : Level → EndedLevel → EndedLevel
closed a e = record { array = first_of a.array e.array; object = first_of a.object e.object; bottom = unwrap_or a.bottom e.bottom }

-- a level that no list gets past
abbrev pub filled_end : EndedLevel → Level
filled_end e = record { array = Some (unwrap_or e.array e.bottom); object = Some (unwrap_or e.object e.bottom); bottom = Some e.bottom }

-- the part of a reduced form after its levels that end
pub record Tail : Type 0 where
  pub last : Level
  pub opens : List Holder
  pub exit : Option Entry

abbrev pub tail_of : Form → Tail
tail_of r = record { last = r.last; opens = r.opens; exit = r.exit }

abbrev pub halted : Form → Level → Form
halted r f = record { ended = r.ended; last = f; opens = []; exit = None; heights = r.heights }

-- a fault of a container that is open is one of all holders of the last level
abbrev pub stop_or : Option ℕ → Form → Form → Form
stop_or (Some p) r k = halted r (filled r.last p)
stop_or None r k = k

abbrev pub with_tail : Form → Tail → Level → List Holder → Form
with_tail r t f os = record { ended = r.ended; last = f; opens = os; exit = t.exit; heights = r.heights }

abbrev pub with_level : Form → EndedLevel → Form
with_level r e = record { ended = r.ended ++ e ∷ []; last = no_faults; opens = []; exit = r.exit; heights = r.heights }

-- the tail stands in the innermost of these open containers, or in the last level
abbrev pub finished : Tail → List Holder → Form → Form
finished t [] r = with_tail r t (merged r.last t.last) t.opens
finished t (o ∷ os) r = stop_or (fault_of t.last o) r (with_tail r t r.last (t.opens ++ o ∷ os))

-- the level can be left: it is above the depth, and some holder ends it without a fault
abbrev pub passes : ℕ → Form → EndedLevel → Bool
passes d r e = nat_lt (length r.ended) d && not (is_some e.array && is_some e.object)

-- the levels that end on the right, one after another, and then its tail
abbrev pub absorbed : ℕ → List EndedLevel → Tail → List Holder → Form → Form
absorbed d [] t os r = finished t os r
absorbed d (e ∷ es) t (o ∷ os) r = stop_or (end_fault_of e o) r (absorbed d es t os r)
absorbed d (e ∷ es) t [] r =
    if passes d r (closed r.last e) then absorbed d es t [] (with_level r (closed r.last e))
    else halted r (filled_end (closed r.last e))

-- the offsets of the right that are greater heights than any on the left
abbrev pub joined_heights : ℕ → Form → List ℕ → List ℕ
joined_heights d l hs = take (d + 1) (l.heights ++ drop ((length l.heights + length l.ended) - length l.opens) hs)

abbrev pub all_faulted : Level → Bool
all_faulted f = (is_some f.array && is_some f.object) && is_some f.bottom

-- past the depth the heights decide for every list, and where all holders have faulted none goes on
abbrev pub over : ℕ → Form → Bool
over d r = nat_lt d (length r.opens) || all_faulted r.last

abbrev pub cut_short : Form → Form
cut_short r = record { ended = r.ended; last = r.last; opens = []; exit = None; heights = r.heights }

abbrev pub cut : ℕ → Form → Form
cut d r = if over d r then cut_short r else r

abbrev pub base_at : List EndedLevel → Level → List ℕ → Form
base_at es f hs = record { ended = es; last = f; opens = []; exit = None; heights = hs }

abbrev pub joined : ℕ → Form → Form → Form
joined d l r = cut d (absorbed d r.ended (tail_of r) l.opens (base_at l.ended l.last (joined_heights d l r.heights)))
