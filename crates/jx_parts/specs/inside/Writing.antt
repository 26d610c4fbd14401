-- The output for a partial result.
use Rattle.std.specs.Prelude.{ℕ, List, Option}
use Rattle.jx_portion.specs.Portion.{PortionValue, IsPortion, IsRecord}

-- a run file of the partial result is written, or a beginning of one
pub record IsWritten (Writes : List ℕ → Type 0) (portion : PortionValue) : Type 0 where
  pub output : List ℕ
  pub of : (part : List ℕ) (from : Option ℕ) (depth : ℕ) → IsPortion part from depth portion → IsRecord part from depth output
  pub wrote : Writes output
