-- The fields of a run in a run file, without where it lies in memory.
use Rattle.std.specs.Prelude.{ℕ, List, map, Option, Some, None}
use Rattle.jx_lex.specs.declared.alphabet.mark.Mark.{Mark}
use Rattle.jx_reduce.specs.declared.table.holder.Holder.{Holder}
use Rattle.jx_reduce.specs.declared.forms.level.Level.{Level}
use Rattle.jx_reduce.specs.declared.forms.ended_level.EndedLevel.{EndedLevel}
use Rattle.jx_reduce.specs.declared.forms.entry.Entry.{Entry}
use Rattle.jx_reduce.specs.declared.forms.parts.FormParts.{FormParts}
use Rattle.jx_reduce.specs.declared.forms.form_ref.FormRef.{FormRef}
use Rattle.jx_reduce.specs.declared.forms.parts.RestParts.{RestParts}
use Rattle.jx_reduce.specs.declared.forms.parts.RestRef.{RestRef}
use Rattle.jx_reduce.specs.declared.forms.parts.StructureParts.{StructureParts}
use Rattle.jx_reduce.specs.declared.forms.parts.StructureRef.{StructureRef}
use Rattle.jx_run.specs.declared.runs.transition.Transition.{Transition}
use Rattle.jx_portion.specs.declared.record.RunParts.{RunParts}

-- open containers stand outermost first
pub record FormFields : Type 0 where
  pub ended : List EndedLevel
  pub last : Level
  pub opens : List Holder
  pub exit : Option Entry
  pub heights : List ℕ

pub record RestFields : Type 0 where
  pub mark : Mark
  pub tail : FormFields

pub record StructureFields : Type 0 where
  pub string : Option ℕ
  pub rest : Option RestFields

pub record RunFields : Type 0 where
  pub from : Option ℕ
  pub end : ℕ
  pub transitions : List Transition
  pub structures : List StructureFields

abbrev pub form_fields : FormParts → FormFields
form_fields p = record { ended = p.ended.items; last = p.last; opens = p.opens.items; exit = p.exit; heights = p.heights.items }

abbrev pub rest_fields : RestParts → RestFields
rest_fields p = record { mark = p.mark; tail = form_fields p.tail }

abbrev pub behind_fields : Option RestParts → Option RestFields
behind_fields None = None
behind_fields (Some p) = Some (rest_fields p)

abbrev pub structure_fields : StructureParts → StructureFields
structure_fields p = record { string = p.string; rest = behind_fields p.rest }

abbrev pub run_fields : RunParts → RunFields
run_fields p = record { from = p.from; end = p.end; transitions = p.transitions.items; structures = map structure_fields p.structures.items }

-- the same of borrowed parts
abbrev pub form_seen : FormRef → FormFields
form_seen p = record { ended = p.ended.now; last = p.last; opens = p.opens.now; exit = p.exit; heights = p.heights.now }

abbrev pub rest_seen : RestRef → RestFields
rest_seen p = record { mark = p.mark; tail = form_seen p.tail }

abbrev pub behind_seen : Option RestRef → Option RestFields
behind_seen None = None
behind_seen (Some p) = Some (rest_seen p)

abbrev pub structure_seen : StructureRef → StructureFields
structure_seen p = record { string = p.string; rest = behind_seen p.rest }
