-- The answers on a sequence by settings: where a byte order mark is ignored, one may stand alone before the first record
-- separator; where names have to be unique, an element that repeats one is refused.
use Rattle.std.specs.Prelude.{◌≡◌, ℕ, List}
use Rattle.std.specs.List.{AllZip}
use Rattle.jx_run.specs.declared.texts.settings.Settings.{Settings}
use Rattle.jx_run.specs.Elements.{Part, part_span}
use Rattle.jx_run.specs.MarkAlone.{elements_by}
use Rattle.jx_answer.specs.declared.element.Element.{Element}
use Rattle.jx_answer.specs.declared.element.ElementAnswer.{ElementAnswer}
use Rattle.jx_answer.specs.ByNames.{IsByNames}
use Rattle.jx_answer.specs.Sequence.{IsElementAnswer}

-- the answer on an element within the depth, and the one that the rule on names makes of that
pub record IsElementBy (settings : Settings) (input : List ℕ) (p : Part) (e : Element) : Type 0 where
  pub told : ElementAnswer
  pub span_is : e.span ≡ part_span p
  pub answer_is : IsElementAnswer input p settings.depth told
  pub by_names : IsByNames settings.names told e.answer

-- one answer for each of them, in order
abbrev pub AreElementsBy : Settings → List ℕ → List Element → Type 0
AreElementsBy settings input answers = AllZip (IsElementBy settings input) (elements_by settings.mark input) answers
