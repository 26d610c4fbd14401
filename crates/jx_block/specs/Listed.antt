-- The token starts that the bits of a word list.
use Rattle.std.specs.Prelude.{ℕ, suc, Bool, ◌==◌, if◌then◌else◌, None, List, [], ◌∷◌}
use Rattle.std.specs.Int.{bit_at}
use Rattle.jx_lex.specs.declared.alphabet.mark.Mark.{Mark}
use Rattle.jx_lex.specs.declared.alphabet.state.LexState.TheVariants.{Gap}
use Rattle.jx_lex.specs.Lex.{with_mark}
use Rattle.jx_lex.specs.Moves.{move}

-- whether bit k of the word is set
abbrev pub is_set : ℕ → ℕ → Bool
is_set word k = bit_at word k == 1

-- the token starts of those bytes whose bits are set, each as the byte begins a token: the bits from k on, the bytes
-- from an offset on
unfoldable pub marks_of : ℕ → ℕ → ℕ → List ℕ → List Mark
marks_of word k at [] = []
marks_of word k at (byte ∷ bytes) = with_mark (if is_set word k then (move Gap byte).begin else None) at (marks_of word (suc k) (suc at) bytes)
