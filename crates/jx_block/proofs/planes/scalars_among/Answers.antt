use Rattle.std.proofs.Common.{◌≡◌, ◌∙◌, ◌<◌, ◌-◌, ◌^◌, ap, sym, refl, Bool, true, false, not, bit_and, arith}
use Rattle.std.specs.Prelude.{◌||◌, ◌&&◌, ◌==◌, get_or}
use Rattle.std.proofs.lemmas.Nat.{and_le_l}
use Rattle.jx_lex.specs.Uneventful.{is_digit}
use Rattle.jx_lex.specs.inside.Bits.{bit}
use Rattle.jx_lex.proofs.Bits.{bit-and, bit-none, bit-or}
use Rattle.jx_block.specs.inside.Planes.{is_literal}
use Rattle.jx_block.proofs.Words.{lane, regroup}
use Rattle.jx_block.proofs.WordsTell.{but}
use Rattle.jx_block.proofs.planes.scalars_among.Goals as goal

-- no place is left, so each has a number
none_left : (p x l : Bool) → (p && not (p && x)) ≡ false → (p && x) ≡ (p && (x || l))
none_left true true l none = refl
none_left true false l none = absurd cc
none_left false x l none = refl

-- a number, or a literal at a place that is left
some_left : (p x l : Bool) → ((p && x) || ((p && not (p && x)) && l)) ≡ (p && (x || l))
some_left true true l = refl
some_left true false l = refl
some_left false x l = refl

pub returns-then-rest-eq0 : goal.returns-then-rest-eq0
returns-then-rest-eq0 c k lt =
    let p = c.args.places in
    let w = c.number_firsts.result in
    let b = get_or c.args.block k 0 in
    let fits : bit_and p w < 2 ^ 64 = let le = and_le_l p w in omega (arith, le) in
    let at : bit (bit_and p w) k ≡ (bit p k && (is_digit b || (b == 0x2d))) = bit-and p w k ∙ ap (λ t. bit p k && t) (c.number_firsts.ensures k lt) in
    at
    ∙ none_left (bit p k) (is_digit b || (b == 0x2d)) (is_literal b) (sym (but p (bit_and p w) k fits lt ∙ ap (λ t. bit p k && not t) at) ∙ ap (λ v. bit v k) c.if-rest-eq0.true ∙ bit-none k)
    ∙ ap (λ t. bit p k && t) (regroup (is_digit b || (b == 0x2d)) (b == 0x74) (b == 0x66) (b == 0x6e))

pub returns : goal.returns
returns c k lt =
    let p = c.args.places in
    let w = c.number_firsts.result in
    let b = get_or c.args.block k 0 in
    let fits : bit_and p w < 2 ^ 64 = let le = and_le_l p w in omega (arith, le) in
    let at : bit (bit_and p w) k ≡ (bit p k && (is_digit b || (b == 0x2d))) = bit-and p w k ∙ ap (λ t. bit p k && t) (c.number_firsts.ensures k lt) in
    let rest : bit (bit_and (bit_and p (2 ^ 64 - 1 - bit_and p w)) c.literal_firsts.result) k ≡ ((bit p k && not (bit p k && (is_digit b || (b == 0x2d)))) && is_literal b) =
    bit-and _ c.literal_firsts.result k
    ∙ (λ i. (but p (bit_and p w) k fits lt ∙ ap (λ t. bit p k && not t) at) i && lane is_literal c.args.block c.literal_firsts.result k c.fits-block.0 c.literal_firsts.ensures lt i) in
    bit-or (bit_and p w) _ k ∙ (λ i. at i || rest i)
    ∙ some_left (bit p k) (is_digit b || (b == 0x2d)) (is_literal b)
    ∙ ap (λ t. bit p k && t) (regroup (is_digit b || (b == 0x2d)) (b == 0x74) (b == 0x66) (b == 0x6e))
