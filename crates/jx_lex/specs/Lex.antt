-- The plain reading of a list of bytes by the lexical machine.
use Rattle.std.specs.Prelude.{ℕ, suc, List, [], ◌∷◌, Option, Some, None}
use Rattle.jx_lex.specs.declared.alphabet.state.LexState.{LexState}
use Rattle.jx_lex.specs.declared.alphabet.mark.MarkKind.{MarkKind}
use Rattle.jx_lex.specs.declared.alphabet.state.TokenEnd.{TokenEnd}
use Rattle.jx_lex.specs.declared.alphabet.state.TokenEnd.TheVariants.{Before, After}
use Rattle.jx_lex.specs.declared.alphabet.state.Step.{Step}
use Rattle.jx_lex.specs.declared.alphabet.mark.Mark.{Mark}
use Rattle.jx_lex.specs.Moves.{move}

-- the state at the end, or the offset of the first fault
pub data LexExit : Type 0 where
  state : LexState → LexExit
  fault : ℕ → LexExit

-- the result of reading: the token starts, the ends of tokens and the exit
pub record Track : Type 0 where
  pub marks : List Mark
  pub ends : List ℕ
  pub exit : LexExit

-- the token start of a step, if it has one, in front of the others
abbrev pub with_mark : Option MarkKind → ℕ → List Mark → List Mark
with_mark None at marks = marks
with_mark (Some k) at marks = record { kind = k; at = at } ∷ marks

-- the end that a step shows, if it shows one: at its byte or just past it
abbrev pub with_end : Option TokenEnd → ℕ → List ℕ → List ℕ
with_end None at ends = ends
with_end (Some Before) at ends = at ∷ ends
with_end (Some After) at ends = suc at ∷ ends

-- a fault
abbrev pub stops_at : ℕ → Track
stops_at at = record { marks = []; ends = []; exit = fault at }

-- the result of a step, in front of the result of the rest
abbrev pub after_step : Step → ℕ → Track → Track
after_step step at rest = record { marks = with_mark step.begin at rest.marks; ends = with_end step.end at rest.ends; exit = rest.exit }

-- reads on in the next state, where there is one
abbrev pub on_next : Option LexState → ℕ → (LexState → Track) → Track
on_next None at more = stops_at at
on_next (Some next) at more = more next

-- the reading of the bytes that stand from an offset on; it ends at the first fault
unfoldable pub lex : LexState → ℕ → List ℕ → Track
lex from at [] = record { marks = []; ends = []; exit = state from }
lex from at (byte ∷ bytes) = after_step (move from byte) at (on_next ((move from byte).next) at (λ next. lex next (suc at) bytes))
