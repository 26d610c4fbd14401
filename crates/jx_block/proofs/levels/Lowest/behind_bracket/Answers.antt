use Rattle.std.proofs.Common.{◌≡◌, ◌⊎◌, inl, inr, ◌∙◌, ℕ, ◌+◌, ◌-◌, ◌<◌, ◌≤◌, Bool, true, false, sym, subst, arith}
use Rattle.std.specs.Prelude.{◌==◌}
use Rattle.std.proofs.lemmas.Bool.{cases_lt}
use Rattle.std.proofs.lemmas.Bool.Decides.{nat_tests}
use Rattle.jx_lex.specs.inside.Bits.{bit}
use Rattle.jx_lex.proofs.Bits.{bit-none}
use Rattle.jx_block.specs.inside.Levels.{HasLowest, moved}
use Rattle.jx_block.proofs.LevelBits.{lowest-closed, lowest-fell, lowest-opened}
use Rattle.jx_block.proofs.levels.Lowest.behind_bracket.Goals as goal

pub returns-then-opens-clause-is : goal.returns-then-opens-clause-is
unfolding bit
returns-then-opens-clause-is c = λ m v s h.
    let self = c.args.self in
    let k = c.args.k in
    let is = lowest-opened m v (k + 1) self.lowest self.above self.bytes s h c.with_behind-opened.result (λ j lt. c.with_behind-opened.ensures.before j (omega (arith, lt))) in
    subst (λ (b : Bool). HasLowest m v (k + 1) self.lowest (self.above + 1) c.with_behind-opened.result (moved b true s)) (sym c.if-opens.true) is

pub returns-then-above-eq0-clause-is : goal.returns-then-above-eq0-clause-is
unfolding bit
returns-then-above-eq0-clause-is c = λ m v s h.
    let self = c.args.self in
    let k = c.args.k in
    let is = lowest-fell m v (k + 1) self.lowest self.above self.bytes s h c.with_behind-fallen.result (omega arith) (λ j lt. c.with_behind-fallen.ensures.before j (omega (arith, lt)) ∙ bit-none j) in
    subst (λ (b : Bool). HasLowest m v (k + 1) (self.lowest + 1) 0 c.with_behind-fallen.result (moved b true s)) (sym c.if-opens.false) is

pub returns-clause-is : goal.returns-clause-is
unfolding bit
returns-clause-is c = λ m v s h.
    let self = c.args.self in
    let k = c.args.k in
    let is = lowest-closed m v (k + 1) self.lowest self.above self.bytes s h c.with_behind-closed.result (omega arith) (λ j lt. c.with_behind-closed.ensures.before j (omega (arith, lt))) in
    subst (λ (b : Bool). HasLowest m v (k + 1) self.lowest (self.above - 1) c.with_behind-closed.result (moved b true s)) (sym c.if-opens.false) is

-- one is none once it is closed
one_closed : (n : ℕ) → 0 < n → (n == 1) ≡ (n - 1 == 0)
one_closed n some = by_order (cases_lt 1 n)
  where
    by_order : (1 < n) ⊎ (n ≤ 1) → (n == 1) ≡ (n - 1 == 0)
    by_order (inl more) =
        let a : (n == 1) ≡ false = grind (arith, nat_tests) in
        let b : (n - 1 == 0) ≡ false = grind (arith, nat_tests) in
        a ∙ sym b
    by_order (inr last) =
        let a : (n == 1) ≡ true = grind (arith, nat_tests) in
        let b : (n - 1 == 0) ≡ true = grind (arith, nat_tests) in
        a ∙ sym b

pub returns-clause-behind : goal.returns-clause-behind
returns-clause-behind c = λ j more lt. c.with_behind-closed.ensures.behind j more lt ∙ one_closed c.args.self.above (omega arith)

pub returns-then-opens-clause-behind : goal.returns-then-opens-clause-behind
returns-then-opens-clause-behind c = λ j more lt.
    let some : (c.args.self.above + 1 == 0) ≡ false = grind (arith, nat_tests) in
    c.with_behind-opened.ensures.behind j more lt ∙ sym some

pub returns-then-above-eq0-clause-behind : goal.returns-then-above-eq0-clause-behind
returns-then-above-eq0-clause-behind c = λ j more lt. c.with_behind-fallen.ensures.behind j more lt
