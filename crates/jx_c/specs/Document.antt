-- The results of calls on documents.
use Rattle.std.specs.Prelude.{◌≡◌, ℕ, Err, Ok, Result}
use Rattle.jx_edit.specs.Document.{DocumentValue}
use Rattle.jx_edit.specs.declared.document_fault.DocumentFault.{DocumentFault}
use Rattle.jx_edit.specs.declared.document_fault.DocumentFault.TheVariants.{Memory, OutOfBounds, UniqueNames}
use Rattle.jx_run.specs.declared.texts.verdict.Verdict.{Verdict}
use Rattle.jx_run.specs.Settings.{JudgedBy}
use Rattle.jx_c.specs.Verdict.{shown}
use Rattle.jx_c.specs.declared.shapes.verdict.JxVerdict.{JxVerdict}

-- it shows the verdict by the document's settings on its bytes
abbrev pub IsVerdictOf : DocumentValue → JxVerdict → Type 0
IsVerdictOf d v = (verdict : Verdict) × (JudgedBy d.settings 0 d.bytes verdict × (v ≡ shown verdict))

abbrev pub status_in : Result (Unit {0}) DocumentFault → ℕ
status_in (Ok done) = 0
status_in (Err OutOfBounds) = 7
status_in (Err UniqueNames) = 6
status_in (Err Memory) = 1
