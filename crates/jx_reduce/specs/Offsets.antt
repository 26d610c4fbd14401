-- Where the offsets lie that a reduced form keeps.
use Rattle.std.specs.Prelude.{◌≡◌, ℕ, ◌+◌, ◌≤◌, List, [], ◌∷◌, Some}
use Rattle.jx_reduce.specs.Form.{Form, fault_of, end_fault_of}
use Rattle.jx_reduce.specs.declared.table.holder.Holder.{Holder}
use Rattle.jx_reduce.specs.declared.forms.level.Level.{Level}
use Rattle.jx_reduce.specs.declared.forms.ended_level.EndedLevel.{EndedLevel}
use Rattle.jx_lex.specs.declared.alphabet.mark.Mark.{Mark}

abbrev pub FaultsIn : (ℕ → Type 0) → Level → Type 0
FaultsIn Q f = (h : Holder) (p : ℕ) → fault_of f h ≡ Some p → Q p

abbrev pub EndIn : (ℕ → Type 0) → EndedLevel → Type 0
EndIn Q e = (h : Holder) (p : ℕ) → end_fault_of e h ≡ Some p → Q p

abbrev pub EachIn : {X : Type 0} → (X → Type 0) → List X → Type 0
EachIn Q [] = Unit {0}
EachIn Q (x ∷ xs) = Q x × EachIn Q xs

-- each offset that is kept is one of these
pub record OffsetsIn (Q : ℕ → Type 0) (r : Form) : Type 0 where
  pub ended : EachIn (EndIn Q) r.ended
  pub last : FaultsIn Q r.last
  pub heights : EachIn Q r.heights

-- the tokens' offsets rise, from this one on
abbrev pub RisingFrom : ℕ → List Mark → Type 0
RisingFrom b [] = Unit {0}
RisingFrom b (m ∷ ms) = (b ≤ m.at) × RisingFrom (m.at + 1) ms
