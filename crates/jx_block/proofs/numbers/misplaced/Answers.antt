use Rattle.std.proofs.Common.{◌≡◌, ◌∙◌, ◌<◌, ◌*◌, ◌%◌, ◌^◌, ap, sym, ℕ, true, false, not, bit_and, bit_or, arith, mod-lt}
use Rattle.std.specs.Prelude.{◌&&◌, ◌||◌}
use Rattle.std.proofs.lemmas.Nat.{or_lt, pow_pos}
use Rattle.jx_lex.specs.inside.Bits.{bit}
use Rattle.jx_lex.proofs.Bits.{bit-and, bit-or, bit-xor}
use Rattle.jx_block.specs.inside.Words.{behind}
use Rattle.jx_block.proofs.Words.{left_none}
use Rattle.jx_block.proofs.WordsTell.{but, neither, shifted, behind_same, flip}
use Rattle.jx_block.proofs.numbers.misplaced.Goals as goal

-- a word that goes on where another one has bits
goes_on : (w from over k : ℕ) → k < 64 → bit (bit_or from (bit_and (w * 2 % 2 ^ 64) over)) k ≡ (bit from k || (behind (bit w) k && bit over k))
goes_on w from over k lt = bit-or from _ k ∙ ap (λ t. bit from k || t) (bit-and _ over k ∙ ap (λ t. t && bit over k) (shifted w k lt))

-- what has no bit left has those of the other word
left : (a b k : ℕ) → b < 2 ^ 64 → k < 64 → bit (bit_and a (flip b)) k ≡ false → bit a k ≡ true → bit b k ≡ true
left a b k fits lt none set = left_none (bit a k) (bit b k) (sym (but a b k fits lt) ∙ none) set

up_fits : (w : ℕ) → w * 2 % 2 ^ 64 < 2 ^ 64
up_fits w = mod-lt (w * 2) (pow_pos 64)

-- the bits before, of a word without another one
but_behind : (a b k : ℕ) → b < 2 ^ 64 → k < 64 → bit (bit_and a (flip b) * 2 % 2 ^ 64) k ≡ behind (λ j. bit a j && not (bit b j)) k
but_behind a b k fits lt = shifted (bit_and a (flip b)) k lt ∙ behind_same _ _ k (λ j e. but a b j fits (omega arith))

pub returns : goal.returns
returns c =
    let t = c.args.words.now in
    let firsts = c.args.firsts in
    let f = c.spread-fractions.result in
    let x = c.spread-powers.result in
    let x_fits : x < 2 ^ 64 = c.spread-powers.type_inv in
    let parts_fit : bit_or f x < 2 ^ 64 = or_lt 64 f x c.spread-fractions.type_inv x_fits in
    let begun_fit : bit_or t.digits t.minuses < 2 ^ 64 = or_lt 64 t.digits t.minuses (omega arith) (omega arith) in
    let before_sign : bit_or firsts (t.exponents * 2 % 2 ^ 64) < 2 ^ 64 = or_lt 64 firsts _ c.ranges.firsts.fits (up_fits t.exponents) in
    record {
      fraction = bit f;
      power = bit x;
      placed = λ k lt none.
          let g = neither _ (bit_and firsts (flip (bit_or t.digits t.minuses))) k none in
          let z = neither _ t.wrong_zeros k g.0 in
          let e = neither _ (bit_and t.exponents (flip (bit_and t.digits (flip x) * 2 % 2 ^ 64))) k z.0 in
          let o = neither _ (bit_and t.points (flip (bit_and t.digits (flip (bit_or f x)) * 2 % 2 ^ 64))) k e.0 in
          let s = neither _ (bit_and (bit_or t.minuses t.pluses) (flip (bit_or firsts (t.exponents * 2 % 2 ^ 64)))) k o.0 in
          let u = neither _ _ k s.0 in
          record {
            fraction_is = bit-xor f _ k u.0 ∙ goes_on f t.points t.digits k lt;
            power_is =
                bit-xor x _ k u.1 ∙ goes_on x t.exponents _ k lt
                ∙ ap (λ b. bit t.exponents k || (behind (bit x) k && b)) (bit-or t.digits _ k ∙ ap (λ b. bit t.digits k || b) (bit-or t.minuses t.pluses k));
            sign = λ set.
                sym (bit-or firsts _ k ∙ ap (λ b. bit firsts k || b) (shifted t.exponents k lt))
                ∙ left (bit_or t.minuses t.pluses) _ k before_sign lt s.1 (bit-or t.minuses t.pluses k ∙ set);
            point = λ set.
                sym (but_behind t.digits (bit_or f x) k parts_fit lt ∙ behind_same _ _ k (λ j e. ap (λ b. bit t.digits j && not b) (bit-or f x j)))
                ∙ left t.points _ k (up_fits _) lt o.1 set;
            exponent = λ set. sym (but_behind t.digits x k x_fits lt) ∙ left t.exponents _ k (up_fits _) lt e.1 set;
            zero = z.1;
            begun = λ set. sym (bit-or t.digits t.minuses k) ∙ left firsts _ k begun_fit lt g.1 set;
          };
    }
