-- Verdicts by a rule on the names of objects, for texts that are otherwise accepted.
use Rattle.std.specs.Prelude.{◌≡◌, ℕ, List, Option, None, Some}
use Rattle.std.specs.List.{AllZip}
use Rattle.jx_run.specs.declared.sequences.element_verdict.ElementVerdict.{ElementVerdict}
use Rattle.jx_run.specs.declared.sequences.element_verdict.ElementVerdict.TheVariants as verdict
use Rattle.jx_run.specs.declared.sequences.element_verdict.JudgedElement.{JudgedElement}
use Rattle.jx_run.specs.declared.texts.settings.NameRule.{NameRule}
use Rattle.jx_run.specs.declared.texts.settings.NameRule.TheVariants.{Any, Unique}
use Rattle.jx_run.specs.declared.texts.settings.Settings.{Settings}
use Rattle.jx_run.specs.declared.texts.verdict.Refusal.{Refusal}
use Rattle.jx_run.specs.declared.texts.verdict.Refusal.TheVariants.{RepeatedName}
use Rattle.jx_run.specs.declared.texts.verdict.Verdict.{Verdict}
use Rattle.jx_run.specs.declared.texts.verdict.Verdict.TheVariants.{Accepted, Refused}
use Rattle.jx_run.specs.Elements.{Part}
use Rattle.jx_run.specs.ElementVerdict.{IsClosedText, IsJudgedElement}
use Rattle.jx_run.specs.MarkAlone.{elements_by}
use Rattle.jx_run.specs.Settings.{IsDocumentBy, JudgedBy}
use Rattle.jx_run.specs.Tree.{Tree}
use Rattle.jx_index.specs.declared.row.Row.{Row}
use Rattle.jx_index.specs.Repeats.{IsLeast, IsRepeat}
use Rattle.jx_index.specs.Rows.{rows}

-- the start of the name for which the rule refuses a text with these rows: the first that an object repeats, where names
-- have to be unique
abbrev pub RefusesName : NameRule → List ℕ → List Row → Option ℕ → Type 0
RefusesName Any text table name = name ≡ None
RefusesName Unique text table name = IsLeast (IsRepeat text table) name

-- ---- a text

-- by cases, the verdict by settings on bytes that stand from 0 on
pub data IsVerdictBy (settings : Settings) (bytes : List ℕ) : Verdict → Type 0 where
  -- a text in which no name is refused
  a_text : {tree : Tree} → IsDocumentBy settings 0 bytes tree → RefusesName settings.names bytes (rows tree) None → IsVerdictBy settings bytes Accepted
  -- a text in which one is
  repeated_name : {tree : Tree} {at : ℕ} → IsDocumentBy settings 0 bytes tree → RefusesName settings.names bytes (rows tree) (Some at)
      → IsVerdictBy settings bytes (Refused (RepeatedName at))
  -- not a text, whatever names its objects have
  no_text : {refusal : Refusal} → JudgedBy settings 0 bytes (Refused refusal) → IsVerdictBy settings bytes (Refused refusal)

-- ---- a sequence

-- the start of the name for which the rule refuses an element with this verdict: only what is accepted can be refused for one
abbrev pub IsRefusedName : Settings → List ℕ → Part → ElementVerdict → Option ℕ → Type 0
IsRefusedName settings input p verdict.Accepted name = (text : IsClosedText p settings.depth) × RefusesName settings.names input (rows text.tree) name
IsRefusedName settings input p (verdict.Refused refusal) name = name ≡ None
IsRefusedName settings input p verdict.MayBeCut name = name ≡ None
IsRefusedName settings input p verdict.Unmarked name = name ≡ None

-- the verdict on an element, unless a name is refused
abbrev pub judged_unless : Option ℕ → JudgedElement → JudgedElement
judged_unless None e = e
judged_unless (Some at) e = record e { verdict = verdict.Refused (RepeatedName at) }

-- the verdict on an element of the input by settings: the one within the depth, and the one that the rule makes of that
pub record IsJudgedBy (settings : Settings) (input : List ℕ) (p : Part) (e : JudgedElement) : Type 0 where
  pub told : JudgedElement
  pub judged : IsJudgedElement settings.depth p told
  pub name : Option ℕ
  pub refused : IsRefusedName settings input p told.verdict name
  pub by_names : e ≡ judged_unless name told

-- one verdict for each element by settings, in order
abbrev pub AreJudgedBy : Settings → List ℕ → List JudgedElement → Type 0
AreJudgedBy settings input verdicts = AllZip (IsJudgedBy settings input) (elements_by settings.mark input) verdicts
