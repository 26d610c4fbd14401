-- The reduced form of tokens, made token by token.
use Rattle.std.specs.Prelude.{ℕ, List, [], ◌∷◌, Option, Some, None}
use Rattle.jx_reduce.specs.Table.{next_of, change_of, Change, same, added, removed}
use Rattle.jx_reduce.specs.Entries.{expect_at, leads_to}
use Rattle.jx_reduce.specs.Form.{Form}
use Rattle.jx_reduce.specs.Join.{no_faults, joined}
use Rattle.jx_reduce.specs.declared.table.holder.Holder.{Holder}
use Rattle.jx_reduce.specs.declared.table.holder.Holder.TheVariants.{Array, Object, Bottom}
use Rattle.jx_reduce.specs.declared.table.expect.Expect.{Expect}
use Rattle.jx_reduce.specs.declared.forms.entry.Entry.{Entry}
use Rattle.jx_reduce.specs.declared.forms.level.Level.{Level}
use Rattle.jx_reduce.specs.declared.forms.ended_level.EndedLevel.{EndedLevel}
use Rattle.jx_lex.specs.declared.alphabet.mark.Mark.{Mark}

-- a token that leads nowhere is a fault
abbrev pub fault_unless : Option Expect → ℕ → Option ℕ
fault_unless None at = Some at
fault_unless (Some e) at = None

abbrev pub fault_at : Entry → Mark → Holder → Option ℕ
fault_at x m h = fault_unless (next_of m.kind (expect_at x h) h) m.at

abbrev pub faults_at : Entry → Mark → Level
faults_at x m = record { array = fault_at x m Array; object = fault_at x m Object; bottom = fault_at x m Bottom }

abbrev pub end_at : Entry → Mark → EndedLevel
end_at x m = record { array = fault_at x m Array; object = fault_at x m Object; bottom = m.at }

-- the reduced form of one token
abbrev pub of_change : Change → Entry → Mark → Form
of_change same x m = record { ended = []; last = faults_at x m; opens = []; exit = Some (leads_to m.kind x); heights = [] }
of_change (added h) x m = record { ended = []; last = faults_at x m; opens = h ∷ []; exit = Some (leads_to m.kind x); heights = m.at ∷ [] }
of_change removed x m = record { ended = end_at x m ∷ []; last = no_faults; opens = []; exit = Some (leads_to m.kind x); heights = [] }

abbrev pub of_mark : Entry → Mark → Form
of_mark x m = of_change (change_of m.kind) x m

abbrev pub of_nothing : Entry → Form
of_nothing x = record { ended = []; last = no_faults; opens = []; exit = Some x; heights = [] }

abbrev pub pushed_from : ℕ → Form → Mark → Option Entry → Form
pushed_from d r m None = r
pushed_from d r m (Some x) = joined d r (of_mark x m)

-- one more token
abbrev pub pushed : ℕ → Form → Mark → Form
pushed d r m = pushed_from d r m r.exit

abbrev pub of_marks : ℕ → Form → List Mark → Form
of_marks d r [] = r
of_marks d r (m ∷ ms) = of_marks d (pushed d r m) ms
