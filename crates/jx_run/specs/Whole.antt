-- The verdict on a whole text, from what its tokens lead to with no container open at the start.
use Rattle.std.specs.Prelude.{ℕ, [], Bool, false, ◌==◌, if◌then◌else◌}
use Rattle.jx_lex.specs.declared.alphabet.lex_exit.LexExit.{LexExit}
use Rattle.jx_lex.specs.declared.alphabet.lex_exit.LexExit.TheVariants as exit
use Rattle.jx_lex.specs.declared.alphabet.state.LexState.{LexState}
use Rattle.jx_reduce.specs.declared.table.expect.Expect.{Expect}
use Rattle.jx_reduce.specs.declared.table.whole.Whole.{Whole}
use Rattle.jx_reduce.specs.declared.table.whole.Whole.TheVariants as whole
use Rattle.jx_run.specs.declared.texts.verdict.Verdict.{Verdict}
use Rattle.jx_run.specs.declared.texts.verdict.Verdict.TheVariants.{Accepted, Refused}
use Rattle.jx_run.specs.declared.texts.verdict.Refusal.TheVariants.{Stopped, Truncated, TooDeep}
use Rattle.jx_run.specs.Laws.{is_end}

-- a whole text may end here, with so many containers open
abbrev pub ends_text : LexState → Expect → ℕ → Bool
ends_text s expect open_count = if open_count == 0 then is_end s expect [] else false

abbrev pub verdict_from : LexExit → Whole → Verdict
verdict_from (exit.State s) (whole.Went expect n) = if ends_text s expect n then Accepted else Refused Truncated
verdict_from (exit.Fault at) (whole.Went expect n) = Refused (Stopped at)
verdict_from x (whole.Stopped at) = Refused (Stopped at)
verdict_from x (whole.TooDeep at) = Refused (TooDeep at)
