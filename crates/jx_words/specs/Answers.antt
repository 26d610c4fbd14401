-- The answers to pointers in a text by settings (RFC 6901), or why it is refused.
use Rattle.std.specs.Prelude.{ℕ, List, Result, Ok, Err, Vec}
use Rattle.std.specs.List.{AllZip}
use Rattle.std.specs.declared.alloc.Global.{Global}
use Rattle.jx_run.specs.declared.texts.settings.Settings.{Settings}
use Rattle.jx_run.specs.declared.texts.verdict.Refusal.{Refusal}
use Rattle.jx_run.specs.declared.texts.verdict.Verdict.TheVariants.{Accepted, Refused}
use Rattle.jx_run.specs.Settings.{IsDocumentBy}
use Rattle.jx_run.specs.Tree.{Tree}
use Rattle.jx_index.specs.ByNames.{IsVerdictBy}
use Rattle.jx_words.specs.declared.pointer_answer.PointerAnswer.{PointerAnswer}
use Rattle.jx_words.specs.Pointers.{IsAnswerTo}

-- these are the answers to the pointers, in order, in its tree
pub record AreAnswersIn (settings : Settings) (text : List ℕ) (pointers : List (List ℕ)) (answers : List PointerAnswer) : Type 0 where
  pub tree : Tree
  pub is_text : IsDocumentBy settings 0 text tree
  pub are_answers : AllZip (IsAnswerTo text tree) pointers answers

-- the text is refused, or each pointer is answered in it
abbrev pub AreAnswersBy : Settings → List ℕ → List (List ℕ) → Result (Vec PointerAnswer Global) Refusal → Type 0
AreAnswersBy settings text pointers (Ok answers) = IsVerdictBy settings text Accepted × AreAnswersIn settings text pointers answers.items
AreAnswersBy settings text pointers (Err refusal) = IsVerdictBy settings text (Refused refusal)
