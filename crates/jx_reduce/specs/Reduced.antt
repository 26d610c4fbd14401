-- A reduced form as the program shows it.
use Rattle.std.specs.Prelude.{ℕ, List}
use Rattle.jx_reduce.specs.Read.{Reading}
use Rattle.jx_reduce.specs.Form.{Form, acts}
use Rattle.jx_reduce.specs.Levels.{form_of}
use Rattle.jx_reduce.specs.declared.table.holder.Holder.{Holder}
use Rattle.jx_reduce.specs.declared.reducing.reduced.Reduced.{Reduced}

abbrev pub depth_of : Reduced → ℕ
depth_of r = r.depth

abbrev pub form_in : Reduced → Form
form_in r = form_of r.levels

-- the reading of the tokens over these open containers, innermost first
abbrev pub answer_of : Reduced → List Holder → Reading
answer_of r s = acts r.depth (form_of r.levels) s
