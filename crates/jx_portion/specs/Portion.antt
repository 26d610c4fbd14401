-- Partial results of a text, and the run files of their bytes.
use Rattle.std.specs.Prelude.{◌≡◌, ◌≢◌, ℕ, ◌+◌, ◌≤◌, ◌<◌, ◌^◌, List, [], ◌∷◌, ◌++◌, Option, None, Some, Result, Ok, Err, is_some, length, map, reverse, unwrap_or}
use Rattle.std.specs.List.{AllByRecursion}
use Rattle.jx_reduce.specs.Structure.{StructureValue}
use Rattle.jx_run.specs.OutcomeRun.{OutcomeRunValue, run_of_parts, IsOutcomeRun, IsWellFormed}
use Rattle.jx_portion.specs.declared.fault.DecodeFault.{DecodeFault}
use Rattle.jx_portion.specs.declared.fault.DecodeFault.TheVariants as refused
use Rattle.jx_portion.specs.declared.fault.Field.TheVariants as field
use Rattle.jx_portion.specs.declared.fault.RunFault.{RunFault}
use Rattle.jx_portion.specs.declared.fault.RunFault.TheVariants.{Malformed}
use Rattle.jx_portion.specs.declared.portion.Mismatch.{Mismatch}
use Rattle.jx_portion.specs.declared.portion.Mismatch.TheVariants.{Depths, Froms, Place, TooLong}
use Rattle.jx_portion.specs.Fields.{FormFields, RestFields, RunFields, StructureFields}
use Rattle.jx_portion.specs.Spelling.{run, spelling, RunFits}
use Rattle.jx_reduce.specs.Form.{Form}
use Rattle.jx_reduce.specs.Parts.{string_head}
use Rattle.jx_reduce.specs.Sound.{IsSound}
use Rattle.jx_lex.specs.declared.alphabet.mark.Mark.{Mark}

-- where the first byte stands in the text, where that was given, and the outcome of the bytes
pub record PortionValue : Type 0 where
  pub from : Option ℕ
  pub run : OutcomeRunValue

abbrev pub start_of : PortionValue → ℕ
start_of p = unwrap_or p.from 0

-- the offset in the text just after its bytes
abbrev pub end_of : PortionValue → ℕ
end_of p = start_of p + p.run.end

-- it is the partial result of these bytes, told to stand at this offset or not, read with this depth
pub record IsPortion (bytes : List ℕ) (from : Option ℕ) (depth : ℕ) (p : PortionValue) : Type 0 where
  pub from_is : p.from ≡ from
  pub depth_is : p.run.depth ≡ depth
  pub run_is : IsOutcomeRun bytes p.run

-- both say where they begin, and the right begins where the left ends; or neither does
abbrev pub Adjoin : PortionValue → PortionValue → Option ℕ → Option ℕ → Type 0
Adjoin left right None None = Unit {0}
Adjoin left right (Some f) (Some g) = g ≡ f + left.run.end
Adjoin left right None (Some g) = ⊥
Adjoin left right (Some f) None = ⊥

-- they may be joined
pub record Meets (left right : PortionValue) : Type 0 where
  pub depths : left.run.depth ≡ right.run.depth
  pub places : Adjoin left right left.from right.from
  pub short : end_of left + right.run.end < 2 ^ 64

-- the first of these that keeps two partial results from being joined
abbrev pub IsMismatch : PortionValue → PortionValue → Mismatch → Type 0
IsMismatch left right Depths = left.run.depth ≢ right.run.depth
IsMismatch left right Froms = (left.run.depth ≡ right.run.depth) × (is_some left.from ≢ is_some right.from)
IsMismatch left right Place =
    (left.run.depth ≡ right.run.depth) × (is_some left.from ≡ is_some right.from) × (Adjoin left right left.from right.from → ⊥)
IsMismatch left right TooLong =
    (left.run.depth ≡ right.run.depth) × Adjoin left right left.from right.from × (2 ^ 64 ≤ end_of left + right.run.end)

-- ---- the partial result that a run file says

abbrev pub fields_head : Option RestFields → List Mark
fields_head None = []
fields_head (Some r) = r.mark ∷ []

-- forms list open containers innermost first
abbrev pub form_in : FormFields → Form
form_in f = record { ended = f.ended; last = f.last; opens = reverse f.opens; exit = f.exit; heights = f.heights }

abbrev pub fields_tail : Option RestFields → Option Form
fields_tail None = None
fields_tail (Some r) = Some (form_in r.tail)

abbrev pub structure_in : ℕ → StructureFields → StructureValue
structure_in d s = record { depth = d; head = string_head s.string ++ fields_head s.rest; tail = fields_tail s.rest }

abbrev pub portion_in : ℕ → RunFields → PortionValue
portion_in d r = record { from = r.from; run = run_of_parts d r.end r.transitions (map (structure_in d) r.structures) }

-- a run has these parts
pub record IsRun (d : ℕ) (r : RunFields) : Type 0 where
  pub structures : AllByRecursion IsSound (map (structure_in d) r.structures)
  pub run : IsWellFormed (portion_in d r).run
  pub place : end_of (portion_in d r) < 2 ^ 64

-- the bytes encode the run of this depth that has these parts
pub record IsSpelt (d : ℕ) (r : RunFields) (bytes : List ℕ) : Type 0 where
  pub run_is : IsRun d r
  pub fits : RunFits r
  pub depth : d ≤ 65535
  pub size : 56 + length (run r) < 2 ^ 64
  pub spelt : bytes ≡ spelling d r

-- the bytes are a run file, and this is the partial result that it says
abbrev pub IsSaidBy : List ℕ → PortionValue → Type 0
IsSaidBy bytes p = (d : ℕ) × (r : RunFields) × (p ≡ portion_in d r) × IsSpelt d r bytes

-- a run file of the partial result of these bytes
pub record IsRecord (bytes : List ℕ) (from : Option ℕ) (depth : ℕ) (r : List ℕ) : Type 0 where
  pub fields : RunFields
  pub is : IsPortion bytes from depth (portion_in depth fields)
  pub spelt : IsSpelt depth fields r

-- ---- what reading a record answers

-- refused when out of memory, or since no run has the parts
abbrev pub OnlyParts : DecodeFault → Type 0 → Type 0
OnlyParts refused.Memory P = Unit {0}
OnlyParts (refused.Fault f) P = (f ≡ Malformed field.Parts) × (P → ⊥)

-- the answer that the bytes give, where a run has it; else that none has
abbrev pub IsAnswer : Result PortionValue DecodeFault → Result (ℕ × RunFields) RunFault → Type 0
IsAnswer (Ok p) (Ok x) = (p ≡ portion_in x.0 x.1) × IsRun x.0 x.1
IsAnswer (Ok p) (Err g) = ⊥
IsAnswer (Err refused.Memory) x = Unit {0}
IsAnswer (Err (refused.Fault f)) (Ok x) = (f ≡ Malformed field.Parts) × (IsRun x.0 x.1 → ⊥)
IsAnswer (Err (refused.Fault f)) (Err g) = g ≡ f

abbrev pub IsMemory : DecodeFault → Type 0
IsMemory refused.Memory = Unit {0}
IsMemory (refused.Fault f) = ⊥
