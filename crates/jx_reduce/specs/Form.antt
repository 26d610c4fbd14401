-- The reduced form of tokens, which does not know the open containers at entry.
use Rattle.std.specs.Prelude.{ℕ, ◌-◌, List, [], ◌∷◌, ◌++◌, Option, Some, None, length, map, nat_lt, if◌then◌else◌, slice_get}
use Rattle.jx_reduce.specs.Entries.{expect_at}
use Rattle.jx_reduce.specs.Read.{Reading, went, stopped, too_deep, top, without_top}
use Rattle.jx_reduce.specs.declared.table.holder.Holder.{Holder}
use Rattle.jx_reduce.specs.declared.table.holder.Holder.TheVariants.{Array, Object, Bottom}
use Rattle.jx_reduce.specs.declared.forms.entry.Entry.{Entry}
use Rattle.jx_reduce.specs.declared.table.expect.Expect.{Expect}
use Rattle.jx_reduce.specs.declared.forms.level.Level.{Level}
use Rattle.jx_reduce.specs.declared.forms.ended_level.EndedLevel.{EndedLevel}

-- open containers stand innermost first
pub record Form : Type 0 where
  pub ended : List EndedLevel
  pub last : Level
  pub opens : List Holder
  pub exit : Option Entry
  pub heights : List ℕ

-- the reading to which the levels lead, for any depth
pub data Plain : Type 0 where
  halt : ℕ → Plain
  go : Expect → List Holder → Plain
  beyond : Plain

abbrev pub fault_of : Level → Holder → Option ℕ
fault_of f Array = f.array
fault_of f Object = f.object
fault_of f Bottom = f.bottom

abbrev pub end_fault_of : EndedLevel → Holder → Option ℕ
end_fault_of f Array = f.array
end_fault_of f Object = f.object
end_fault_of f Bottom = Some f.bottom

-- a fault ends the reading; where there is none it goes on
abbrev pub unless : Option ℕ → Plain → Plain
unless None p = p
unless (Some at) p = halt at

-- the levels that end, over these containers, and what follows them
abbrev pub along : List EndedLevel → List Holder → (List Holder → Plain) → Plain
along [] s k = k s
along (x ∷ xs) s k = unless (end_fault_of x (top s)) (along xs (without_top s) k)

-- the reading that follows in the last level
abbrev pub within : Level → List Holder → (List Holder → Plain) → List Holder → Plain
within f opens k s = unless (fault_of f (top s)) (k (opens ++ s))

abbrev pub at_end : Option Entry → List Holder → Plain
at_end None s = beyond
at_end (Some x) s = go (expect_at x (top s)) s

abbrev pub leading : Form → (List Holder → Plain) → List Holder → Plain
leading r k s = along r.ended s (within r.last r.opens k)

abbrev pub plain : Form → List Holder → Plain
plain r s = leading r (at_end r.exit) s

-- the earlier offset wins, and at one offset the fault
abbrev pub decide : Plain → Option ℕ → Reading
decide (halt p) None = stopped p
decide (halt p) (Some q) = if nat_lt q p then too_deep q else stopped p
decide (go e s) None = went e s
decide (go e s) (Some q) = too_deep q
decide beyond None = too_deep 0
decide beyond (Some q) = too_deep q

abbrev pub acts : ℕ → Form → List Holder → Reading
acts d r s = decide (plain r s) (slice_get r.heights (d - length s))

-- a level that has ended, as one that may have
abbrev pub level_of : EndedLevel → Level
level_of e = record { array = e.array; object = e.object; bottom = Some e.bottom }

-- all levels, in order
abbrev pub levels_of : Form → List Level
levels_of r = map level_of r.ended ++ r.last ∷ []

-- the expectation at the end, for a holder of the last level that has not faulted
abbrev pub exit_unless : Option ℕ → Option Entry → Holder → Option Expect
exit_unless (Some at) x h = None
exit_unless None None h = None
exit_unless None (Some x) h = Some (expect_at x h)

abbrev pub exit_at : Form → Holder → Option Expect
exit_at r h = exit_unless (fault_of r.last h) r.exit (top (r.opens ++ h ∷ []))
