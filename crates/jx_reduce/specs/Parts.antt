-- The structure that parts are of: owned ones, from which it is made, and borrowed ones, which are looked at.
use Rattle.std.specs.Prelude.{ℕ, List, [], ◌∷◌, ◌++◌, Option, None, Some, reverse}
use Rattle.jx_reduce.specs.Form.{Form}
use Rattle.jx_reduce.specs.Levels.{borrowed_form}
use Rattle.jx_reduce.specs.Structure.{StructureValue}
use Rattle.jx_reduce.specs.declared.forms.parts.FormParts.{FormParts}
use Rattle.jx_reduce.specs.declared.forms.parts.RestParts.{RestParts}
use Rattle.jx_reduce.specs.declared.forms.parts.RestRef.{RestRef}
use Rattle.jx_reduce.specs.declared.forms.parts.StructureParts.{StructureParts}
use Rattle.jx_reduce.specs.declared.forms.parts.StructureRef.{StructureRef}
use Rattle.jx_lex.specs.declared.alphabet.mark.Mark.{Mark}
use Rattle.jx_lex.specs.declared.alphabet.mark.MarkKind.TheVariants.{String}

abbrev pub string_at : ℕ → Mark
string_at at = record { kind = String; at = at }

abbrev pub string_head : Option ℕ → List Mark
string_head None = []
string_head (Some at) = string_at at ∷ []

-- parts list open containers outermost first
abbrev pub form_of_parts : FormParts → Form
form_of_parts p = record { ended = p.ended.items; last = p.last; opens = reverse p.opens.items; exit = p.exit; heights = p.heights.items }

abbrev pub parts_head : Option RestParts → List Mark
parts_head None = []
parts_head (Some r) = r.mark ∷ []

abbrev pub parts_tail : Option RestParts → Option Form
parts_tail None = None
parts_tail (Some r) = Some (form_of_parts r.tail)

abbrev pub structure_of_parts : ℕ → StructureParts → StructureValue
structure_of_parts d p = record { depth = d; head = string_head p.string ++ parts_head p.rest; tail = parts_tail p.rest }

abbrev pub borrowed_head : Option RestRef → List Mark
borrowed_head None = []
borrowed_head (Some r) = r.mark ∷ []

abbrev pub borrowed_tail : Option RestRef → Option Form
borrowed_tail None = None
borrowed_tail (Some r) = Some (borrowed_form r.tail)

abbrev pub borrowed_structure : ℕ → StructureRef → StructureValue
borrowed_structure d p = record { depth = d; head = string_head p.string ++ borrowed_head p.rest; tail = borrowed_tail p.rest }
