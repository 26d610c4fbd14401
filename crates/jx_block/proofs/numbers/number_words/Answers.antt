use Rattle.std.proofs.Common.{◌≡◌, ◌∙◌, ◌^◌, ◌*◌, ◌%◌, ap, sym, ℕ, Bool, true, false, bit_and, bit_or}
use Rattle.std.specs.Prelude.{◌==◌, ◌&&◌, ◌||◌, ◌<◌, get_or}
use Rattle.jx_lex.specs.inside.Bits.{bit}
use Rattle.jx_lex.specs.Uneventful.{is_digit}
use Rattle.jx_lex.proofs.Bits.{bit-and, bit-or, bit-down}
use Rattle.jx_lex.proofs.ClassTable.{and_left, and_right}
use Rattle.jx_block.specs.inside.Words.{behind}
use Rattle.jx_block.proofs.Words.{lane, low_kept}
use Rattle.jx_block.proofs.WordsTell.{shifted, behind_same}
use Rattle.jx_block.proofs.numbers.number_words.Goals as goal

-- of three tests that are not all passed, the third is not, where the others are
not_third : (a b t w : Bool) → w ≡ ((a && b) && t) → a ≡ true → b ≡ true → w ≡ false → t ≡ false
not_third a b t w is h k none = sym (is ∙ (λ i. (h i && k i) && t)) ∙ none

-- the places of leading digits
leading_at : (firsts minuses k : ℕ) → k < 64 → bit (bit_or firsts (bit_and firsts minuses * 2 % 2 ^ 64)) k ≡ (bit firsts k || behind (λ j. bit firsts j && bit minuses j) k)
leading_at firsts minuses k lt =
    bit-or firsts _ k
    ∙ ap (λ t. bit firsts k || t) (shifted (bit_and firsts minuses) k lt ∙ behind_same (bit (bit_and firsts minuses)) (λ j. bit firsts j && bit minuses j) k (λ j e. bit-and firsts minuses j))

pub returns : goal.returns
returns c =
    let v = c.args.block in
    let among : (places w k : ℕ) (t : Bool) → bit w k ≡ (bit places k && t) → bit w k ≡ true → (bit places k ≡ true) × (t ≡ true) = λ places w k t is set.
    (and_left (bit places k) t (sym is ∙ set), and_right (bit places k) t (sym is ∙ set)) in
    let digit : (k : ℕ) → k < 64 → bit (bit_and c.args.numbers c.digits.result) k ≡ (bit c.args.numbers k && is_digit (get_or v k 0)) = λ k lt.
    bit-and c.args.numbers c.digits.result k ∙ ap (λ t. bit c.args.numbers k && t) (lane is_digit v c.digits.result k c.fits-block.0 c.digits.ensures lt) in
    record {
      digit = λ k lt set. among c.args.numbers _ k _ (digit k lt) set;
      minus = λ k lt set. let both = among _ _ k _ (c.among-minuses.ensures k lt) set in (low_kept c.args.numbers _ k both.0, both.1);
      plus = λ k lt set. let both = among _ _ k _ (c.among.ensures k lt) set in (low_kept c.args.numbers _ k (low_kept _ _ k both.0), both.1);
      point = λ k lt set. let both = among _ _ k _ (c.among-points.ensures k lt) set in (low_kept c.args.numbers _ k both.0, both.1);
      exponent = λ k lt set. let both = among _ _ k _ (c.exponents_among-exponents.ensures k lt) set in (low_kept c.args.numbers _ k both.0, both.1);
      zero = λ k lt lead next none.
          not_third _ _ _ _ (c.among-2.ensures k lt ∙ ap (λ t. t && (get_or v k 0 == 0x30)) (bit-and _ _ k))
          (leading_at c.args.firsts c.among-minuses.result k lt ∙ lead) (bit-down (bit_and c.args.numbers c.digits.result) k ∙ next) none;
    }
