-- The contents of the run file of a run.
use Rattle.std.specs.Prelude.{◌≡◌, ℕ, List, [], ◌∷◌, Option, None, Some, map, reverse}
use Rattle.jx_lex.specs.declared.alphabet.mark.Mark.{Mark}
use Rattle.jx_reduce.specs.Form.{Form}
use Rattle.jx_reduce.specs.Sound.{IsSound}
use Rattle.jx_reduce.specs.Structure.{StructureValue}
use Rattle.jx_run.specs.OutcomeRun.{OutcomeRunValue}
use Rattle.jx_portion.specs.Fields.{FormFields, RunFields, StructureFields}
use Rattle.jx_portion.specs.Portion.{structure_in}
use Rattle.jx_portion.specs.Spelling.{structure, StructureFits}

abbrev pub form_out : Form → FormFields
form_out t = record { ended = t.ended; last = t.last; opens = reverse t.opens; exit = t.exit; heights = t.heights }

-- the first token start is a string where a second one or no form follows it
abbrev pub fields_at : List Mark → Option Form → StructureFields
fields_at [] t = record { string = None; rest = None }
fields_at (m ∷ []) None = record { string = Some m.at; rest = None }
fields_at (m ∷ []) (Some t) = record { string = None; rest = Some (record { mark = m; tail = form_out t }) }
fields_at (m ∷ n ∷ _) None = record { string = Some m.at; rest = None }
fields_at (m ∷ n ∷ _) (Some t) = record { string = Some m.at; rest = Some (record { mark = n; tail = form_out t }) }

abbrev pub fields_of : StructureValue → StructureFields
fields_of s = fields_at s.head s.tail

abbrev pub structure_said : StructureValue → List ℕ
structure_said s = structure (fields_of s)

-- the structure is the one that its fields say, and they can be written
pub record IsSaid (s : StructureValue) : Type 0 where
  pub fits : StructureFits (fields_of s)
  pub sound : IsSound s
  pub same : structure_in s.depth (fields_of s) ≡ s

abbrev pub run_said : Option ℕ → OutcomeRunValue → RunFields
run_said from v = record { from = from; end = v.end; transitions = v.transitions; structures = map fields_of v.structures }
