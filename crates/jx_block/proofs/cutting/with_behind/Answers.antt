use Rattle.std.proofs.Common.{◌≡◌, ◌∙◌, ◌<◌, ◌-◌, ◌/◌, ◌^◌, ℕ, Bool, true, false, not, refl, ap, sym, arith}
use Rattle.std.proofs.lemmas.Bool.{or_right}
use Rattle.std.specs.Prelude.{◌&&◌, ◌||◌}
use Rattle.jx_lex.specs.inside.Bits.{bit}
use Rattle.jx_lex.proofs.Bits.{bit-and, bit-not, bit-or}
use Rattle.jx_block.proofs.Words.{and_true, high_at, low_at, or_none}
use Rattle.jx_block.proofs.cutting.with_behind.Goals as goal

and_none : (a : Bool) → (a && false) ≡ false
and_none true = refl
and_none false = refl

not_at : (k j : ℕ) (t : Bool) → j < 64 → bit ((2 ^ 64 - 1) / 2 ^ (63 - k)) j ≡ t → bit (2 ^ 64 - 1 - (2 ^ 64 - 1) / 2 ^ (63 - k)) j ≡ not t
not_at k j t lt h = bit-not ((2 ^ 64 - 1) / 2 ^ (63 - k)) j (omega arith) lt ∙ ap not h

pub returns-then-set-clause-before : goal.returns-then-set-clause-before
returns-then-set-clause-before c = λ j le.
    let w = c.args.word in
    let k = c.args.k in
    bit-or w _ j ∙ ap (λ t. bit w j || t) (not_at k j true (omega (arith, le, c.requires)) (low_at k j c.requires le)) ∙ or_none (bit w j)

pub returns-then-set-clause-behind : goal.returns-then-set-clause-behind
returns-then-set-clause-behind c = λ j more lt.
    let w = c.args.word in
    let k = c.args.k in
    bit-or w _ j ∙ or_right (bit w j) _ (not_at k j false lt (high_at k j c.requires more)) ∙ sym c.if-set.true

pub returns-else-set-clause-before : goal.returns-else-set-clause-before
returns-else-set-clause-before c = λ j le.
    let w = c.args.word in
    bit-and w _ j ∙ ap (λ t. bit w j && t) (low_at c.args.k j c.requires le) ∙ and_true (bit w j)

pub returns-else-set-clause-behind : goal.returns-else-set-clause-behind
returns-else-set-clause-behind c = λ j more lt.
    let w = c.args.word in
    bit-and w _ j ∙ ap (λ t. bit w j && t) (high_at c.args.k j c.requires more) ∙ and_none (bit w j) ∙ sym c.if-set.false
