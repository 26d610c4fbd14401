-- Token starts at offsets of bytes.
use Rattle.std.specs.Prelude.{◌<◌, ◌-◌, ◌^◌, List, All}
use Rattle.jx_lex.specs.declared.alphabet.mark.Mark.{Mark}

-- each is before the greatest offset
abbrev pub AllLow : List Mark → Type 0
AllLow marks = All (λ (m : Mark). m.at < 2 ^ 64 - 1) marks
