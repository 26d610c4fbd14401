use Rattle.std.proofs.Common.{◌≡◌, [], ◌∷◌, length, Option, refl, ap, sym, subst, arith, length-append}
use Rattle.std.specs.Prelude.{IsNone}
use Rattle.jx_lex.specs.declared.alphabet.mark.MarkKind.TheVariants.{Comma}
use Rattle.jx_lex.specs.Seen.{WantsNoMore, TokenLists}
use Rattle.jx_lex.specs.declared.alphabet.lex_exit.LexExit.{LexExit}
use Rattle.jx_lex.proofs.scanner.tokens.Tokens.read.Goals as goal

-- a vector always wants more
wants-more : (t : TokenLists) → WantsNoMore (λ marks ends. t ≡ record { marks = marks; ends = ends }) → ⊥
wants-more t h =
    let e = ap (λ (u : TokenLists). length u.marks) (h t.marks (record { kind = Comma; at = 0 } ∷ []) t.ends [] refl) in
    let n = length-append t.marks (record { kind = Comma; at = 0 } ∷ []) in
    omega (arith, e, n)

pub unreachable-requires : goal.unreachable-requires
unreachable-requires c =
    let P : Option LexExit → Type 0 = λ o. IsNone o in
    wants-more c.scan.new.sink (c.in_ok-exit.ensures.done (subst P (sym c.in-None.is) refl))
