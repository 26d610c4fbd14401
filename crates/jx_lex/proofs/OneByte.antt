-- What the machine does at one byte.
use Rattle.std.proofs.Common.{◌≡◌, ℕ, suc, [], ◌∷◌, refl, Option, Some, None}
use Rattle.jx_lex.specs.declared.alphabet.state.LexState.{LexState}
use Rattle.jx_lex.specs.Moves.{move}
use Rattle.jx_lex.specs.Lex.{Track, lex, with_mark, with_end, after_step, on_next}

-- what a track does at one byte
abbrev pub one : ℕ → ℕ → LexState → Track
one at byte s = lex s at (byte ∷ [])

pub one-is : (at byte : ℕ) (s : LexState)
    → one at byte s ≡ record { marks = with_mark ((move s byte).begin) at []; ends = with_end ((move s byte).end) at []; exit = (on_next ((move s byte).next) at (λ n. lex n (suc at) [])).exit }
unfolding lex
one-is at byte s = go ((move s byte).next)
  where
    go : (m : Option LexState) → after_step (move s byte) at (on_next m at (λ n. lex n (suc at) []))
        ≡ record { marks = with_mark ((move s byte).begin) at []; ends = with_end ((move s byte).end) at []; exit = (on_next m at (λ n. lex n (suc at) [])).exit }
    go None = refl
    go (Some n) = refl
