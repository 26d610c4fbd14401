-- Values among bytes that are kept of a text.
use Rattle.std.specs.Prelude.{◌≡◌, ℕ, List, ◌++◌}
use Rattle.std.specs.List.{AllZip}
use Rattle.jx_words.specs.declared.pointer_answer.PointerAnswer.{PointerAnswer}
use Rattle.jx_values.specs.declared.form.Form.{Form}
use Rattle.jx_values.specs.Values.{told_line, value_line}

-- the same is written and told for the one in a text and for the other among some bytes
pub record AreSame (text : List ℕ) (answer : PointerAnswer) (bytes : List ℕ) (here : PointerAnswer) : Type 0 where
  pub line : (form : Form) → value_line form bytes here ≡ value_line form text answer
  pub told : (form : Form) (pointer : List ℕ) → told_line form bytes pointer here ≡ told_line form text pointer answer

-- whatever bytes follow those
abbrev pub StaySame : List ℕ → List ℕ → PointerAnswer → PointerAnswer → Type 0
StaySame text bytes answer here = (more : List ℕ) → AreSame text answer (bytes ++ more) here

-- each in its place
abbrev pub AllStaySame : List ℕ → List ℕ → List PointerAnswer → List PointerAnswer → Type 0
AllStaySame text bytes answers moved = AllZip (StaySame text bytes) answers moved
