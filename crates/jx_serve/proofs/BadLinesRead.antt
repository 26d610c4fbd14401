-- What a reader of a document's lines has read, and the lines among it that are no texts.
use Rattle.std.proofs.Common.{◌≡◌, ℕ, List, ◌++◌, map, sym, ap, ◌∙◌}
use Rattle.std.specs.Prelude.{not}
use Rattle.std.proofs.lemmas.List.Elements.{filter-append}
use Rattle.jx_ndjson.specs.Answers.{AreAnswers}
use Rattle.jx_ndjson.specs.Reading.{HasTold, LineReaderValue}
use Rattle.jx_ndjson.specs.Tally.{bad_of, is_accepted}
use Rattle.jx_ndjson.specs.WholeLines.{AreWhole, WholeLinesValue, moved_line}
use Rattle.jx_ndjson.specs.declared.judged_line.JudgedLine.{JudgedLine}
use Rattle.jx_ndjson.proofs.Moved.{bad_moved}
use Rattle.jx_run.specs.declared.texts.settings.Settings.{Settings}
use Rattle.jx_serve.specs.inside.BadLines.{AreBadLines}
use Rattle.jx_serve.specs.inside.LineTables.{AreLinesOf, HasBad}

bad_both : (xs ys : List JudgedLine) → bad_of (xs ++ ys) ≡ bad_of xs ++ bad_of ys
bad_both xs ys = filter-append (λ (j : JudgedLine). not (is_accepted j.verdict)) xs ys

-- with more lines, of which those that are no texts were added
pub bad_more : (settings : Settings) (input more : List ℕ) (bad grown added answers : List JudgedLine) (old new : LineReaderValue) → HasBad settings input bad old
    → ((told : List JudgedLine) → HasTold settings input told old → HasTold settings (input ++ more) (told ++ answers) new) → added ≡ bad_of answers → grown ≡ bad ++ added
    → HasBad settings (input ++ more) grown new
bad_more settings input more bad grown added answers old new h reads is e = record {
  answers = h.answers ++ answers;
  told = reads h.answers h.told;
  bad_are = e ∙ ap (λ (js : List JudgedLine). bad ++ js) is ∙ ap (λ (js : List JudgedLine). js ++ bad_of answers) h.bad_are ∙ sym (bad_both h.answers answers);
}

-- with whole lines that were read before
pub bad_block : (settings : Settings) (input more : List ℕ) (bad grown : List JudgedLine) (block : WholeLinesValue) (lines at : ℕ) (old new : LineReaderValue)
    → AreLinesOf settings.depth more block → HasBad settings input bad old
    → ((told answers : List JudgedLine) → HasTold settings input told old → AreWhole settings.depth more answers block → HasTold settings (input ++ more) (told ++ map (moved_line lines at) answers) new)
    → grown ≡ bad ++ map (moved_line lines at) block.bad → HasBad settings (input ++ more) grown new
bad_block settings input more bad grown block lines at old new are h reads e =
    bad_more settings input more bad grown (map (moved_line lines at) block.bad) (map (moved_line lines at) are.0) old new h (λ told t. reads told are.0 t are.1)
    (ap (λ (js : List JudgedLine). map (moved_line lines at) js) are.1.bad_are ∙ sym (bad_moved lines at are.0)) e

pub bad_at_end : (settings : Settings) (input : List ℕ) (bad all last : List JudgedLine) (reader : LineReaderValue) → HasBad settings input bad reader
    → ((told : List JudgedLine) → HasTold settings input told reader → AreAnswers settings input (told ++ last)) → all ≡ bad ++ bad_of last → AreBadLines settings input all
bad_at_end settings input bad all last reader h ends e = record {
  answers = h.answers ++ last;
  are_answers = ends h.answers h.told;
  bad_are = e ∙ ap (λ (js : List JudgedLine). js ++ bad_of last) h.bad_are ∙ sym (bad_both h.answers last);
}
