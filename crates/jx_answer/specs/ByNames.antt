-- Answers on elements by a rule on the names of objects.
use Rattle.std.specs.Prelude.{◌≡◌, ℕ, Option, None, Some}
use Rattle.jx_run.specs.declared.texts.settings.NameRule.{NameRule}
use Rattle.jx_run.specs.declared.texts.verdict.Refusal.TheVariants.{RepeatedName}
use Rattle.jx_index.specs.ByNames.{RefusesName}
use Rattle.jx_answer.specs.declared.element.ElementAnswer.{ElementAnswer}
use Rattle.jx_answer.specs.declared.element.ElementAnswer.TheVariants as answer

-- an answer on an element, unless a name is refused
abbrev pub unless_refused : Option ℕ → ElementAnswer → ElementAnswer
unless_refused None told = told
unless_refused (Some at) told = answer.Refused (RepeatedName at)

-- the start of the name for which the rule refuses what has this answer: only what is accepted can be refused for one
abbrev pub RefusesNameIn : NameRule → ElementAnswer → Option ℕ → Type 0
RefusesNameIn rule (answer.Accepted index) name = RefusesName rule index.text index.rows name
RefusesNameIn rule (answer.Refused refusal) name = name ≡ None
RefusesNameIn rule answer.MayBeCut name = name ≡ None
RefusesNameIn rule answer.Unmarked name = name ≡ None

-- the answer that the rule makes of one on an element
pub record IsByNames (rule : NameRule) (told after : ElementAnswer) : Type 0 where
  pub name : Option ℕ
  pub refused : RefusesNameIn rule told name
  pub after_is : after ≡ unless_refused name told
