-- The line of a verdict on a text, and the exit.
use Rattle.std.specs.Prelude.{◌≡◌, ℕ, List, [], Bool, true, false, codes}
use Rattle.jx_run.specs.declared.texts.verdict.Verdict.{Verdict}
use Rattle.jx_run.specs.declared.texts.verdict.Verdict.TheVariants.{Accepted, Refused}
use Rattle.jx_run.specs.declared.texts.verdict.Refusal.{Refusal}
use Rattle.jx_ends.specs.declared.exit.Exit.{Exit}
use Rattle.jx_ends.specs.declared.exit.Exit.TheVariants.{Good, Bad}
use Rattle.jx_words.specs.Words.{line, refusal_words}

abbrev pub SaysAccepted : List ℕ → Exit → Type 0
SaysAccepted output exit = (output ≡ line (codes "accepted")) × (exit ≡ Good)

abbrev pub SaysRefused : Refusal → List ℕ → Exit → Type 0
SaysRefused refusal output exit = (output ≡ line (refusal_words refusal)) × (exit ≡ Bad)

-- for what is refused, one line
abbrev pub ByVerdict : (List ℕ → Exit → Type 0) → Verdict → List ℕ → Exit → Type 0
ByVerdict IsForText Accepted output exit = IsForText output exit
ByVerdict IsForText (Refused refusal) output exit = SaysRefused refusal output exit

-- the bytes that are written of an output: nothing where a command is quiet
abbrev pub shown_output : Bool → List ℕ → List ℕ
shown_output true output = []
shown_output false output = output
