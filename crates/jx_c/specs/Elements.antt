-- The elements of a JSON text sequence (RFC 7464) as C sees them.
use Rattle.std.specs.Prelude.{◌≡◌, ℕ, List, length}
use Rattle.jx_run.specs.declared.sequences.element_verdict.ElementVerdict.{ElementVerdict}
use Rattle.jx_run.specs.declared.sequences.element_verdict.ElementVerdict.TheVariants as element
use Rattle.jx_run.specs.declared.sequences.element_verdict.JudgedElement.{JudgedElement}
use Rattle.jx_run.specs.declared.texts.settings.Settings.{Settings}
use Rattle.jx_run.specs.declared.texts.verdict.Verdict.TheVariants as verdict
use Rattle.jx_run.specs.MarkAlone.{elements_by}
use Rattle.jx_index.specs.ByNames.{AreJudgedBy}
use Rattle.jx_c.specs.Buffers.{IsFilled}
use Rattle.jx_c.specs.Rows.{shown_span}
use Rattle.jx_c.specs.Verdict.{shown}
use Rattle.jx_c.specs.declared.texts.elements.JxElement.{JxElement}
use Rattle.jx_c.specs.declared.shapes.verdict.JxVerdict.{JxVerdict}

-- as that on a text, with two kinds more
abbrev pub shown_verdict : ElementVerdict → JxVerdict
shown_verdict element.Accepted = shown verdict.Accepted
shown_verdict (element.Refused refusal) = shown (verdict.Refused refusal)
shown_verdict element.MayBeCut = record { offset = 0; kind = 4 }
shown_verdict element.Unmarked = record { offset = 0; kind = 5 }

abbrev pub shown_element : JudgedElement → JxElement
shown_element e = record { span = shown_span e.span; verdict = shown_verdict e.verdict }

-- how many elements the sequence has, and in the buffer the verdict on each by settings
pub record AreElementsOf (settings : Settings) (sequence : List ℕ) (old new : List JxElement) (count : ℕ) : Type 0 where
  pub count_is : count ≡ length (elements_by settings.mark sequence)
  pub judged : List JudgedElement
  pub are : AreJudgedBy settings sequence judged
  pub filled : IsFilled shown_element old new judged
