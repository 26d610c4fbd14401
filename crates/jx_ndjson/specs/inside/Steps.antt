-- How a verdict on a line is made of the verdict on its bytes.
use Rattle.std.specs.Prelude.{◌≡◌, ◌==◌, ℕ, zero, suc, Bool, true, false, List}
use Rattle.jx_run.specs.declared.texts.settings.FrontMark.{FrontMark}
use Rattle.jx_run.specs.declared.texts.settings.FrontMark.TheVariants as on_mark
use Rattle.jx_run.specs.declared.texts.verdict.Verdict.{Verdict}
use Rattle.jx_run.specs.declared.texts.verdict.Verdict.TheVariants as verdict
use Rattle.jx_ndjson.specs.declared.judged_line.LineVerdict.{LineVerdict}
use Rattle.jx_ndjson.specs.declared.judged_line.LineVerdict.TheVariants.{Accepted, Refused, MayBeCut, Blank}
use Rattle.jx_ndjson.specs.Lines.{is_line_feed}
use Rattle.jx_ndjson.specs.Parts.{before_first}

-- no byte is a line feed
abbrev pub HasNoLineFeed : List ℕ → Type 0
HasNoLineFeed bytes = before_first is_line_feed bytes ≡ bytes

-- by whether the line has white space alone, and whether it may go on after its last byte
abbrev pub told : Bool → Bool → Verdict → LineVerdict
told true is_open v = Blank
told false is_open (verdict.Refused refusal) = Refused refusal
told false true verdict.Accepted = MayBeCut
told false false verdict.Accepted = Accepted

-- the byte of a byte order mark at an offset
abbrev pub is_next_of_mark : ℕ → ℕ → Bool
is_next_of_mark zero byte = byte == 0xef
is_next_of_mark (suc zero) byte = byte == 0xbb
is_next_of_mark (suc (suc zero)) byte = byte == 0xbf
is_next_of_mark (suc (suc (suc n))) byte = false

abbrev pub is_ignored : FrontMark → Bool
is_ignored on_mark.Refused = false
is_ignored on_mark.Ignored = true
