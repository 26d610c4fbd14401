-- What the law of tokens says.
use Rattle.std.proofs.Common.{◌≡◌, ℕ, List, true, false, refl}
use Rattle.jx_lex.specs.declared.kind.Kind.{Kind}
use Rattle.jx_lex.specs.declared.alphabet.state.LexState.{LexState}
use Rattle.jx_lex.specs.declared.alphabet.state.LexState.TheVariants as state
use Rattle.jx_lex.specs.Moves.{move, go}
use Rattle.jx_lex.specs.Token.{IsToken}
use Rattle.jx_lex.specs.TokenStates.{in_token, mark_of, IsRead}
use Rattle.jx_lex.specs.TokenSteps.{TokenStep, GapStep}

pub record TokensAreRead : Type 0 where
  pub reads : (kind : Kind) (bytes : List ℕ) → IsToken kind bytes → IsRead (mark_of kind) bytes
  pub tokens : (kind : Kind) (bytes : List ℕ) → IsRead (mark_of kind) bytes → IsToken kind bytes
  pub stays : (s next : LexState) (byte : ℕ) → in_token s ≡ true → move s byte ≡ go next → in_token next ≡ true
  pub steps : (s : LexState) (byte : ℕ) → in_token s ≡ true → TokenStep s byte
  pub gaps : (byte : ℕ) → GapStep byte

pub gap_of : (s : LexState) → in_token s ≡ false → s ≡ state.Gap
gap_of state.Gap h = refl
gap_of _ h = absurd cc
