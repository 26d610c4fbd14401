-- The verdict on an element of an input by a rule on names.
use Rattle.std.specs.Prelude.{List, ℕ}
use Rattle.jx_run.specs.declared.sequences.element_verdict.JudgedElement.{JudgedElement}
use Rattle.jx_run.specs.declared.texts.settings.Settings.{Settings}
use Rattle.jx_run.specs.ElementVerdict.{IsJudgedElement}
use Rattle.jx_run.specs.MarkAlone.{part_of}
use Rattle.jx_index.specs.ByNames.{IsJudgedBy}

-- where the first is the verdict on the bytes at its span, the second is that by the rule too
abbrev pub IsNamed : Settings → List ℕ → JudgedElement → JudgedElement → Type 0
IsNamed settings input told named = IsJudgedElement settings.depth (part_of input told.span) told → IsJudgedBy settings input (part_of input told.span) named
