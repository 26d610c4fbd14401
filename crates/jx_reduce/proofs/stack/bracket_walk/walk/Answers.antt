use Rattle.std.proofs.Common.{◌≡◌, ◌∙◌, ◌<◌, ◌≤◌, ◌-◌, ◌+◌, ◌⊎◌, inl, inr, ℕ, Bool, true, false, refl, ap, sym, subst, arith, w64, ◌++◌}
use Rattle.std.specs.Int.{trailing_zeros}
use Rattle.jx_lex.specs.inside.Bits.{bit}
use Rattle.std.proofs.lemmas.Bool.{cases_lt}
use Rattle.jx_lex.proofs.Bits.{bit-none}
use Rattle.jx_block.proofs.Words.{cleared, lowest_set, none_left, not_before}
use Rattle.jx_reduce.specs.Bits.{in_word}
use Rattle.jx_reduce.specs.inside.Blocks.{container, Walks}
use Rattle.jx_reduce.proofs.BlockWalk.{any_bracket, bracket-bit, walks-on, walks-over}
use Rattle.jx_reduce.proofs.stack.bracket_walk.walk.Goals as goal

pub loop-left-init : goal.loop-left-init
loop-left-init c = record {
  inner = c.requires;
  low = omega arith;
  none = λ j lt. absurd (omega arith);
  others = λ j le lt. bracket-bit c.args.kinds.now j;
  objects = λ rest j le lt. c.is_object.ensures rest ∙ ap container (sym (c.all_bits-objects.ensures j lt));
  within = λ n none. omega arith;
  walks = λ rest most le. refl;
}

-- the lowest bit that is left is a bracket
is_bracket : (any : ℕ → Bool) (left from : ℕ) → ((j : ℕ) → j < from → bit left j ≡ false) → ((j : ℕ) → from ≤ j → j < 64 → bit left j ≡ any j) → (k : ℕ) → k < 64 → bit left k ≡ true → any k ≡ true
is_bracket any left from none others k lt set = sym (others k (not_before left from k none set) lt) ∙ set

pub bracket-requires-clause-bracket : goal.bracket-requires-clause-bracket
unfolding bit
bracket-requires-clause-bracket c =
    let v = c.loop-left.invariant in
    let low = lowest_set c.loop-left.left (omega arith) (omega arith) in
    is_bracket (any_bracket c.args.kinds.now) c.loop-left.left c.loop-left.from v.none v.others (trailing_zeros w64 c.loop-left.left) low.0 low.1

behind_it : (any : ℕ → Bool) (k n : ℕ) → k < 64 → any k ≡ true → ((j : ℕ) → n ≤ j → j < 64 → any j ≡ false) → k + 1 ≤ n
behind_it any k n lt set none = by_order (cases_lt k n)
  where
    by_order : (k < n) ⊎ (n ≤ k) → k + 1 ≤ n
    by_order (inl less) = omega arith
    by_order (inr more) = let clash : true ≡ false = sym set ∙ none k more lt in cc

pub loop-left-preserved : goal.loop-left-preserved
loop-left-preserved c =
    let t = c.args.kinds.now in
    let left = c.loop-left.left in
    let v = c.loop-left.invariant in
    let k = trailing_zeros w64 left in
    let low = lowest_set left (omega arith) (omega arith) in
    let lt : k < 64 = low.0 in
    let cl = cleared left (omega arith) (omega arith) in
    let from : c.loop-left.from ≤ k = not_before left c.loop-left.from k v.none low.1 in
    let old = c.args.inner in
    let now = c.loop-left.inner in
    let new = c.in_ok-inner.inner in
    record {
      inner = c.in_ok-inner.ensures.inner;
      low = omega (arith, lt);
      none = none_left left k cl;
      others = λ j le high. cl.others j (omega (arith, le)) ∙ v.others j (omega (arith, le, from)) high;
      objects = λ rest j le high. c.is_object-in-loop-left.ensures rest ∙ ap container (sym (c.with_behind-objects.ensures.behind j (omega (arith, le)) high));
      within = λ n none. behind_it (any_bracket t) k n lt (is_bracket (any_bracket t) left c.loop-left.from v.none v.others k lt low.1) none;
      walks = λ rest most le.
          walks-over t (bit c.loop-left.objects) (bit c.with_behind-objects.result) most (in_word old.count old.bits ++ rest) (in_word now.count now.bits ++ rest) (in_word new.count new.bits ++ rest)
          c.loop-left.from k from lt (v.walks rest most le) (λ j below high. sym (v.others j below (omega (arith, lt, high))) ∙ low.2 j high) (v.objects rest) c.with_behind-objects.ensures.before
          (c.in_ok-inner.ensures.steps rest most (bit c.with_behind-objects.result) le);
    }

pub returns : goal.returns
unfolding bit
returns c =
    let t = c.args.kinds.now in
    let v = c.loop-left.invariant in
    let from = c.loop-left.from in
    let old = c.args.inner in
    let now = c.loop-left.inner in
    record {
      inner = v.inner;
      walks = λ rest most n le few none.
          let s = in_word old.count old.bits ++ rest in
          let u = in_word now.count now.bits ++ rest in
          let low : from ≤ n = v.within n none in
          let e : from + (n - from) ≡ n = omega (arith, low) in
          subst (λ n. Walks t (bit c.loop-left.objects) most s n u) e
          (walks-on t (bit c.loop-left.objects) most s u from (n - from) (v.walks rest most le)
          (λ j below high. sym (v.others j below (omega (arith, low, few, high))) ∙ ap (λ w. bit w j) c.loop-left-test.false ∙ bit-none j)
          (λ j below high. v.objects rest j below (omega (arith, low, few, high))));
    }
