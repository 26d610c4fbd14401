-- The bytes of a string, with its quotation marks.
use Rattle.std.proofs.Common.{ℕ, ◌≤◌, List, [], ◌∷◌, length, length-append, arith}
use Rattle.jx_lex.specs.Token.{quoted, IsString}

pub string_long : {string units : List ℕ} → IsString string units → 2 ≤ length string
string_long (quoted {w} cs) = omega (arith, length-append w (0x22 ∷ []))
