-- Sums of tokens of which only the counts are known.
use Rattle.std.proofs.Common.{◌≡◌, ℕ, suc, ◌+◌, ◌-◌, List, [], ◌∷◌, refl, sym, ◌∙◌, ap, arith, Bool, true, false, cond}
use Rattle.std.specs.Prelude.{◌==◌}
use Rattle.jx_lex.specs.declared.alphabet.mark.Mark.{Mark}
use Rattle.jx_lex.specs.declared.alphabet.mark.MarkKind.{MarkKind}
use Rattle.jx_lex.specs.declared.alphabet.mark.MarkKind.TheVariants as kind
use Rattle.jx_lex.specs.declared.scanner.counts.TokenCounts.{TokenCounts}
use Rattle.jx_lex.specs.Counts as counts
use Rattle.jx_lex.specs.Counts.{HasCounts, Levels, at_start, levels_of, on_level, seen_there}
use Rattle.jx_lex.proofs.Levels.{levels-go, levels_from}
use Rattle.jx_file_index.specs.declared.sum.Sum.{Sum}
use Rattle.jx_file_index.specs.Sums.{at_comma, closing, joined, noted, opening}
use Rattle.jx_file_index.proofs.Sums.{joins, on_from}

abbrev by_levels : Levels → Sum
by_levels l = record { closed = l.lowest; opened = l.above; commas = l.commas }

abbrev seen_at : Bool → ℕ → ℕ → Levels → Levels
seen_at here c v l = cond here (record l { commas = l.commas + c; values = l.values + v }) l

opened_by : (l : Levels) → opening (by_levels l) ≡ by_levels (counts.opening l)
opened_by l = by_place (l.above == 0)
  where
    by_place : (here : Bool) → opening (by_levels l) ≡ opening (by_levels (seen_at here 0 1 l))
    by_place true = let e : l.commas ≡ l.commas + 0 = omega arith in ap (λ (n : ℕ). record { closed = l.lowest; opened = suc l.above; commas = n }) e
    by_place false = refl

closed_by : (l : Levels) → closing (by_levels l) ≡ by_levels (counts.closing l)
closed_by l = by_place (l.above == 0)
  where
    by_place : (here : Bool) → cond here (record { closed = suc l.lowest; opened = 0; commas = 0 }) (record (by_levels l) { opened = l.above - 1 })
        ≡ by_levels (cond here (record { lowest = suc l.lowest; above = 0; commas = 0; values = 0 }) (record l { above = l.above - 1 }))
    by_place true = refl
    by_place false = refl

comma_by : (l : Levels) → at_comma (by_levels l) ≡ by_levels (seen_there 1 0 l)
comma_by l = by_place (l.above == 0)
  where
    by_place : (here : Bool) → cond here (record (by_levels l) { commas = suc l.commas }) (by_levels l) ≡ by_levels (seen_at here 1 0 l)
    by_place true = let e : suc l.commas ≡ l.commas + 1 = omega arith in ap (λ (n : ℕ). record { closed = l.lowest; opened = l.above; commas = n }) e
    by_place false = refl

value_by : (l : Levels) → by_levels l ≡ by_levels (seen_there 0 1 l)
value_by l = by_place (l.above == 0)
  where
    by_place : (here : Bool) → by_levels l ≡ by_levels (seen_at here 0 1 l)
    by_place true = let e : l.commas ≡ l.commas + 0 = omega arith in ap (λ (n : ℕ). record { closed = l.lowest; opened = l.above; commas = n }) e
    by_place false = refl

one_by : (k : MarkKind) (l : Levels) → noted k (by_levels l) ≡ by_levels (on_level k l)
one_by kind.OpenArray l = opened_by l
one_by kind.OpenObject l = opened_by l
one_by kind.CloseArray l = closed_by l
one_by kind.CloseObject l = closed_by l
one_by kind.Comma l = comma_by l
one_by kind.Colon l = refl
one_by kind.String l = value_by l
one_by kind.Number l = value_by l
one_by kind.True l = value_by l
one_by kind.False l = value_by l
one_by kind.Null l = value_by l

many_by : (l : Levels) (marks : List Mark) → on_from (by_levels l) marks ≡ by_levels (levels_from l marks)
many_by l [] = refl
many_by l (m ∷ marks) = ap (λ (s : Sum). on_from s marks) (one_by m.kind l) ∙ many_by (on_level m.kind l) marks

-- what is known of the counts is the sum
pub summed_by : (s r : Sum) (marks : List Mark) (ends : List ℕ) (counts : TokenCounts) → HasCounts marks ends counts → r.closed ≡ counts.lowest → r.opened + counts.closing ≡ counts.lowest + counts.opening
    → r.commas ≡ counts.lowest_commas → joined s r ≡ on_from s marks
summed_by s r marks ends counts h closed opened commas =
    let moves = (levels-go at_start marks).moves in
    let ho = h.opening in
    let hc = h.closing in
    let hl = h.lowest in
    let c : r.closed ≡ (levels_of marks).lowest = closed ∙ sym hl in
    let o : r.opened ≡ (levels_of marks).above = omega (arith, moves, ho, hc, hl, opened) in
    let m : r.commas ≡ (levels_of marks).commas = commas ∙ sym h.lowest_commas in
    (λ i. joined s (record { closed = c i; opened = o i; commas = m i })) ∙ ap (joined s) (sym (many_by at_start marks)) ∙ joins s marks
