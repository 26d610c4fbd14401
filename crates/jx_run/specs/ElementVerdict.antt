-- The verdict on an element of a JSON text sequence (RFC 7464, sections 2.1 and 2.4).
use Rattle.std.specs.Prelude.{◌≡◌, ℕ, ◌<◌, Bool, true, false}
use Rattle.jx_run.specs.declared.sequences.element_verdict.ElementVerdict.{ElementVerdict}
use Rattle.jx_run.specs.declared.sequences.element_verdict.ElementVerdict.TheVariants as element
use Rattle.jx_run.specs.declared.sequences.element_verdict.JudgedElement.{JudgedElement}
use Rattle.jx_run.specs.declared.texts.verdict.Verdict.{Verdict}
use Rattle.jx_run.specs.declared.texts.verdict.Verdict.TheVariants.{Accepted, Refused}
use Rattle.jx_run.specs.Elements.{Part, part_span}
use Rattle.jx_run.specs.Tree.{Tree}
use Rattle.jx_run.specs.Unclosed.{EndsUnclosed, IsAccepted, end_of}
use Rattle.jx_run.specs.Verdict.{Judged}

-- the element is a text whose end shows
pub record IsClosedText (p : Part) (limit : ℕ) : Type 0 where
  pub tree : Tree
  pub accepted : IsAccepted p limit tree
  pub closed : EndsUnclosed tree (end_of p) → ⊥

-- the element is a text whose end would show only in what follows
pub record IsUnclosedText (p : Part) (limit : ℕ) : Type 0 where
  pub tree : Tree
  pub accepted : IsAccepted p limit tree
  pub unclosed : EndsUnclosed tree (end_of p)

-- the verdict on an element; bytes before the first record separator have the offset 0
abbrev pub IsVerdictOn : Part → ℕ → ElementVerdict → Type 0
IsVerdictOn p limit element.Unmarked = p.at ≡ 0
IsVerdictOn p limit (element.Refused refusal) = (0 < p.at) × Judged p.at p.bytes limit (Refused refusal)
IsVerdictOn p limit element.MayBeCut = (0 < p.at) × IsUnclosedText p limit
IsVerdictOn p limit element.Accepted = (0 < p.at) × IsClosedText p limit

pub record IsJudgedElement (limit : ℕ) (p : Part) (e : JudgedElement) : Type 0 where
  pub span_is : e.span ≡ part_span p
  pub verdict_is : IsVerdictOn p limit e.verdict

-- the verdict on an element after a separator, by that on its bytes and by whether their last one is open
abbrev pub told : Verdict → Bool → ElementVerdict
told Accepted true = element.MayBeCut
told Accepted false = element.Accepted
told (Refused refusal) open_ended = element.Refused refusal
