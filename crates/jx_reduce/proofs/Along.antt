-- Readings along levels.
use Rattle.std.proofs.Common.{◌≡◌, ℕ, ◌+◌, List, [], ◌∷◌, ◌++◌, length, refl, ap, arith, Option, Some, None}
use Rattle.std.specs.Prelude.{unwrap_or}
use Rattle.jx_reduce.specs.Read.{top, without_top}
use Rattle.jx_reduce.specs.Form.{Plain, halt, fault_of, end_fault_of, unless, along, at_end}
use Rattle.jx_reduce.specs.Join.{first_of, merged, filled, closed, no_faults, Tail}
use Rattle.jx_reduce.specs.declared.table.holder.Holder.{Holder}
use Rattle.jx_reduce.specs.declared.table.holder.Holder.TheVariants.{Array, Object, Bottom}
use Rattle.jx_reduce.specs.declared.forms.level.Level.{Level}
use Rattle.jx_reduce.specs.declared.forms.ended_level.EndedLevel.{EndedLevel}

-- two lists of levels are gone along one after another
pub along-append : (xs ys : List EndedLevel) (s : List Holder) (k : List Holder → Plain) → along (xs ++ ys) s k ≡ along xs s (λ t. along ys t k)
along-append [] ys s k = refl
along-append (x ∷ xs) ys s k = ap (unless (end_fault_of x (top s))) (along-append xs ys (without_top s) k)

-- what follows matters only for the containers that are left
pub along_same : (xs : List EndedLevel) (s : List Holder) (k l : List Holder → Plain) → ((t : List Holder) → length t + length xs ≡ length s → k t ≡ l t) → along xs s k ≡ along xs s l
along_same [] s k l h = h s (omega arith)
along_same (x ∷ xs) [] k l h = refl
along_same (x ∷ xs) (y ∷ s) k l h = ap (unless (end_fault_of x y)) (along_same xs s k l (λ t e. h t (omega (arith, e))))

-- an earlier fault stays
pub unless_first : (a b : Option ℕ) (p : Plain) → unless (first_of a b) p ≡ unless a (unless b p)
unless_first None b p = refl
unless_first (Some q) b p = refl

pub unless_filled : (a : Option ℕ) (q : ℕ) (p : Plain) → unless (Some (unwrap_or a q)) p ≡ unless a (halt q)
unless_filled None q p = refl
unless_filled (Some r) q p = refl

pub fault_of-merged : (a b : Level) (h : Holder) → fault_of (merged a b) h ≡ first_of (fault_of a h) (fault_of b h)
fault_of-merged a b Array = refl
fault_of-merged a b Object = refl
fault_of-merged a b Bottom = refl

pub fault_of-filled : (a : Level) (q : ℕ) (h : Holder) → fault_of (filled a q) h ≡ Some (unwrap_or (fault_of a h) q)
fault_of-filled a q Array = refl
fault_of-filled a q Object = refl
fault_of-filled a q Bottom = refl

first_or : (a : Option ℕ) (b : ℕ) → Some (unwrap_or a b) ≡ first_of a (Some b)
first_or None b = refl
first_or (Some p) b = refl

pub end_fault_of-closed : (a : Level) (e : EndedLevel) (h : Holder) → end_fault_of (closed a e) h ≡ first_of (fault_of a h) (end_fault_of e h)
end_fault_of-closed a e Array = refl
end_fault_of-closed a e Object = refl
end_fault_of-closed a e Bottom = first_or a.bottom e.bottom

pub fault_of-no_faults : (h : Holder) → fault_of no_faults h ≡ None
fault_of-no_faults Array = refl
fault_of-no_faults Object = refl
fault_of-no_faults Bottom = refl

-- what follows a reduced form whose open containers are these
abbrev pub past : Tail → List Holder → Plain
past t s = unless (fault_of t.last (top s)) (at_end t.exit (t.opens ++ s))
