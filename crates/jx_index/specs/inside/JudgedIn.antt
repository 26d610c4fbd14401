-- Judged elements, with where they lie in the input.
use Rattle.std.specs.Prelude.{◌≡◌, ℕ, ◌+◌, ◌≤◌, List, length, slice_range}
use Rattle.jx_run.specs.declared.sequences.element_verdict.JudgedElement.{JudgedElement}
use Rattle.jx_run.specs.Elements.{Part}
use Rattle.jx_run.specs.ElementVerdict.{IsJudgedElement}

-- an element's verdict whatever names its objects have, and that its bytes are those of the input at its span
pub record IsJudgedIn (input : List ℕ) (limit : ℕ) (p : Part) (e : JudgedElement) : Type 0 where
  pub judged : IsJudgedElement limit p e
  pub bytes : slice_range input p.at (p.at + length p.bytes) ≡ p.bytes
  pub within : p.at + length p.bytes ≤ length input
