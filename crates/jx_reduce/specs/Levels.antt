-- The reduced form that a value of the program is.
use Rattle.std.specs.Prelude.{ℕ, List, [], ◌∷◌, Option, Some, None, reverse}
use Rattle.std.specs.Prelude.{◌≡◌, ◌≤◌, ◌+◌, length, vec_len, vec_capacity}
use Rattle.jx_reduce.specs.Form.{Form}
use Rattle.jx_reduce.specs.Join.{cut, absorbed, tail_of, base_at}
use Rattle.jx_reduce.specs.declared.forms.entry.Entry.{Entry}
use Rattle.jx_reduce.specs.declared.table.holder.Holder.{Holder}
use Rattle.jx_reduce.specs.declared.forms.levels.Levels.{Levels}
use Rattle.jx_reduce.specs.declared.forms.form_ref.FormRef.{FormRef}

abbrev pub form_of : Levels → Form
form_of v = record { ended = v.ended.items; last = v.last; opens = reverse v.opens.items; exit = v.exit; heights = v.heights.items }

abbrev pub borrowed_form : FormRef → Form
borrowed_form p = record { ended = p.ended.now; last = p.last; opens = reverse p.opens.now; exit = p.exit; heights = p.heights.now }

abbrev pub head_of : {X : Type 0} → List X → Option X
head_of [] = None
head_of (x ∷ _) = Some x

abbrev pub taken_in : ℕ → Form → Form → Form
taken_in d l r = cut d (absorbed d r.ended (tail_of r) l.opens (base_at l.ended l.last l.heights))

abbrev pub ended_in : ℕ → Form → Form → Form
ended_in d l r = cut d (absorbed d [] (tail_of r) l.opens (base_at l.ended l.last l.heights))

-- all but the heights stay
pub record IsSameBut (old new : Levels) : Type 0 where
  pub ended : new.ended ≡ old.ended
  pub last : new.last ≡ old.last
  pub opens : new.opens ≡ old.opens
  pub exit : new.exit ≡ old.exit

-- no vector has to grow
pub record HasRoom (v : Levels) (p : FormRef) : Type 0 where
  pub ended : vec_len v.ended + length p.ended.now ≤ vec_capacity v.ended
  pub opens : vec_len v.opens + length p.opens.now ≤ vec_capacity v.opens
  pub heights : vec_len v.heights + length p.heights.now ≤ vec_capacity v.heights

pub record HasRoomOf (l : Levels) (r : Form) : Type 0 where
  pub ended : vec_len l.ended + length r.ended ≤ vec_capacity l.ended
  pub opens : vec_len l.opens + length r.opens ≤ vec_capacity l.opens
  pub heights : vec_len l.heights + length r.heights ≤ vec_capacity l.heights

-- a form with these open containers and this exit
abbrev pub with_opens : Form → List Holder → Entry → Form
with_opens r os x = record { ended = r.ended; last = r.last; opens = os; exit = Some x; heights = r.heights }
