-- The reading of a text from its start.
use Rattle.std.specs.Prelude.{◌≡◌, ℕ, ◌+◌, List, length}
use Rattle.jx_lex.specs.declared.alphabet.mark.Mark.{Mark}
use Rattle.jx_summary.specs.declared.span.Span.{Span}
use Rattle.jx_lex.specs.declared.alphabet.state.LexState.TheVariants.{Gap}
use Rattle.jx_lex.specs.Lex.{lex}
use Rattle.jx_run.specs.declared.texts.verdict.Verdict.{Verdict}
use Rattle.jx_run.specs.Verdict.{Judged}

pub record StartedValue : Type 0 where
  pub span : Span
  pub depth : ℕ
  pub marks : List Mark
  pub ends : List ℕ
  pub verdict : Verdict

-- it is the reading of exactly these bytes
pub record IsStarted (bytes : List ℕ) (s : StartedValue) : Type 0 where
  pub long : s.span.end ≡ s.span.start + length bytes
  pub marks : s.marks ≡ (lex Gap s.span.start bytes).marks
  pub ends : s.ends ≡ (lex Gap s.span.start bytes).ends
  pub judged : Judged s.span.start bytes s.depth s.verdict
