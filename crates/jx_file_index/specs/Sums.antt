-- The effect of a list of token starts on the containers that are open, whichever these are.
use Rattle.std.specs.Prelude.{suc, ◌+◌, ◌-◌, ◌==◌, ◌<◌, ◌^◌, List, fold, nat_lt, if◌then◌else◌}
use Rattle.jx_lex.specs.declared.alphabet.mark.Mark.{Mark}
use Rattle.jx_lex.specs.declared.alphabet.mark.MarkKind.{MarkKind}
use Rattle.jx_lex.specs.declared.alphabet.mark.MarkKind.TheVariants.{OpenArray, CloseArray, OpenObject, CloseObject, Comma}
use Rattle.jx_file_index.specs.declared.sum.Sum.{Sum}

-- no token start
abbrev pub nothing : Sum
nothing = record { closed = 0; opened = 0; commas = 0 }

-- one container more
abbrev pub opening : Sum → Sum
opening s = record s { opened = suc s.opened }

-- the innermost of those that were opened, or else one that stood open before, in which no comma was seen yet
abbrev pub closing : Sum → Sum
closing s = if s.opened == 0 then record { closed = suc s.closed; opened = 0; commas = 0 } else record s { opened = s.opened - 1 }

-- a comma counts where no container is open that was opened
abbrev pub at_comma : Sum → Sum
at_comma s = if s.opened == 0 then record s { commas = suc s.commas } else s

-- one token start more, after the others
abbrev pub noted : MarkKind → Sum → Sum
noted OpenArray s = opening s
noted OpenObject s = opening s
noted CloseArray s = closing s
noted CloseObject s = closing s
noted Comma s = at_comma s
noted _ s = s

-- all of them, from the first to the last
abbrev pub sum_of : List Mark → Sum
sum_of marks = fold (λ s mark. noted mark.kind s) nothing marks

-- of two parts, one after the other: the right one closes fewer than the left one opened, as many, or more
abbrev pub joined : Sum → Sum → Sum
joined l r =
    if nat_lt r.closed l.opened then record { closed = l.closed; opened = (l.opened - r.closed) + r.opened; commas = l.commas }
    else record { closed = l.closed + (r.closed - l.opened); opened = r.opened; commas = if r.closed == l.opened then l.commas + r.commas else r.commas }

-- the counts are kept in two, two and eight bytes
abbrev pub Fits : Sum → Type 0
Fits s = (s.closed < 2 ^ 16) × (s.opened < 2 ^ 16) × (s.commas < 2 ^ 64)
