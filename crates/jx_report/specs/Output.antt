-- The output for an input, and how the program then ends.
use Rattle.std.specs.Prelude.{◌≡◌, ℕ, List, ◌++◌, codes, map, string_bytes}
use Rattle.jx_run.specs.declared.texts.verdict.Verdict.{Verdict}
use Rattle.jx_run.specs.declared.texts.settings.Settings.{Settings}
use Rattle.jx_run.specs.Settings.{IsDocumentBy}
use Rattle.jx_run.specs.Tree.{Tree}
use Rattle.jx_index.specs.declared.row.Row.{Row}
use Rattle.jx_index.specs.Rows.{rows}
use Rattle.jx_index.specs.ByNames.{IsVerdictBy}
use Rattle.jx_answer.specs.declared.element.Element.{Element}
use Rattle.jx_answer.specs.Settled.{AreElementsBy}
use Rattle.jx_task.specs.declared.task.Task.{Task}
use Rattle.jx_task.specs.declared.task.Task.TheVariants.{Check, Index, At, Seq}
use Rattle.jx_ends.specs.declared.exit.Exit.{Exit}
use Rattle.jx_ends.specs.declared.exit.Exit.TheVariants.{Good}
use Rattle.jx_report.specs.Elements.{element_lines, exit_past_all}
use Rattle.jx_words.specs.Pointers.{PointerLines}
use Rattle.jx_report.specs.RowWords.{row_lines}
use Rattle.jx_words.specs.Verdicts.{ByVerdict, SaysAccepted}
use Rattle.jx_words.specs.Words.{line}

-- ---- what is written

abbrev pub SaysRows : List Row → List ℕ → Exit → Type 0
SaysRows table output exit = (output ≡ line (codes "accepted") ++ row_lines 0 table) × (exit ≡ Good)

abbrev pub SaysElements : List Element → List ℕ → Exit → Type 0
SaysElements elements output exit = (output ≡ element_lines elements) × (exit ≡ exit_past_all Good elements)

-- ---- for a text by settings

-- the rows of its tree
abbrev pub ListsRows : Settings → List ℕ → List ℕ → Exit → Type 0
ListsRows settings text output exit = (tree : Tree) × IsDocumentBy settings 0 text tree × SaysRows (rows tree) output exit

-- the answers to pointers in its tree
abbrev pub AnswersPointers : List (List ℕ) → Settings → List ℕ → List ℕ → Exit → Type 0
AnswersPointers pointers settings text output exit = (tree : Tree) × IsDocumentBy settings 0 text tree × PointerLines text tree pointers output exit

-- ---- for any input

abbrev pub TextOutput : (List ℕ → Exit → Type 0) → Settings → List ℕ → List ℕ → Exit → Type 0
TextOutput IsForText settings input output exit = (verdict : Verdict) × IsVerdictBy settings input verdict × ByVerdict IsForText verdict output exit

-- the whole output for an input by settings, and the status
abbrev pub Output : Task → Settings → List ℕ → List ℕ → Exit → Type 0
Output Check settings input output exit = TextOutput SaysAccepted settings input output exit
Output Index settings input output exit = TextOutput (ListsRows settings input) settings input output exit
Output (At pointers) settings input output exit = TextOutput (AnswersPointers (map string_bytes pointers.items) settings input) settings input output exit
Output Seq settings input output exit = (elements : List Element) × AreElementsBy settings input elements × SaysElements elements output exit
