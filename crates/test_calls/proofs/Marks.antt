-- Lists of marks whose offsets lie below a bound.
use Rattle.std.proofs.Common.{ℕ, ◌<◌, ◌≤◌, List, [], ◌∷◌, arith}
use Rattle.jx_reduce.specs.Offsets.{EachIn}
use Rattle.jx_lex.specs.declared.alphabet.mark.Mark.{Mark}

-- what lies below one bound lies below a greater one
pub each_below : (b c : ℕ) (ms : List Mark) → b ≤ c → EachIn (λ m. (0 ≤ m.at) × (m.at < b)) ms → EachIn (λ m. (0 ≤ m.at) × (m.at < c)) ms
each_below b c [] h e = tt
each_below b c (m ∷ ms) h e = ((e.0.0, omega (arith, h, e.0.1)), each_below b c ms h e.1)
