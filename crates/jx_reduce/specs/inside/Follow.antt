-- How one reduced form goes on with the forms of further tokens.
use Rattle.std.specs.Prelude.{ℕ, ◌<◌, List, length, slice_index_or, Option, Some, None}
use Rattle.jx_reduce.specs.Form.{Form}
use Rattle.jx_reduce.specs.Join.{joined}
use Rattle.jx_reduce.specs.Levels.{HasRoomOf}
use Rattle.jx_reduce.specs.Reductions.{Forms, form_at}
use Rattle.jx_reduce.specs.declared.reducing.reduced.Reduced.{Reduced}
use Rattle.jx_reduce.specs.declared.forms.entry.Entry.{Entry}

abbrev pub followed_by : ℕ → Form → Forms → Option Entry → Form
followed_by d l r None = l
followed_by d l r (Some x) = joined d l (form_at r x)

-- the left's exit picks the form of the right that it goes on with
abbrev pub followed : ℕ → Form → Forms → Form
followed d l r = followed_by d l r l.exit

abbrev pub ReadyBy : Reduced → Forms → Option Entry → Type 0
ReadyBy l r None = Unit {0}
ReadyBy l r (Some x) = HasRoomOf l.levels (form_at r x)

-- going on with these forms makes no vector grow
abbrev pub IsReady : Reduced → Forms → Type 0
IsReady l r = ReadyBy l r l.levels.exit

-- so it is for each of them
abbrev pub AreReady : List Reduced → Forms → Type 0
AreReady ls r = (i : ℕ) (d : Reduced) → i < length ls → IsReady (slice_index_or ls i d) r
