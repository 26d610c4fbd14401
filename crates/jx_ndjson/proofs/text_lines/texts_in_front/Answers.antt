use Rattle.std.proofs.Common.{rules, ◌≡◌, ℕ, List, ◌+◌, ◌-◌, ◌<◌, ◌≤◌, ◌^◌, length, take, Option, subst, ◌∙◌, arith}
use Rattle.std.specs.Prelude.{IfSome, slice_range}
use Rattle.std.proofs.lemmas.List.Edits.{length-between}
use Rattle.jx_ndjson.specs.inside.Texts.{AreTexts}
use Rattle.jx_ndjson.proofs.Texts.{one_more}
use Rattle.jx_ndjson.proofs.text_lines.texts_in_front.Goals as goal

pub loop-preserved : goal.loop-preserved
loop-preserved c =
    let slice : List ℕ = c.args.slice.now in
    let at : ℕ = c.loop.len in
    let n : ℕ = c.in-Some.line in
    let v = c.loop.invariant in
    let rest : List ℕ = slice_range slice at (length slice) in
    let within : at ≤ length slice = v.within in
    let few : c.loop.count ≤ at = v.few in
    let long : length rest ≡ length slice - at = length-between slice at (length slice) (omega arith) in
    let high : n ≤ length rest = subst (λ (o : Option ℕ). IfSome o (λ len. len ≤ length rest)) c.in-Some.is c.in_ok-line.ensures.within in
    let some : 0 < n = subst (λ (o : Option ℕ). IfSome o (λ len. 0 < len)) c.in-Some.is c.in_ok-line.ensures.some in
    let deep = subst (λ (o : Option ℕ). IfSome o (λ len. c.text_line.new.stack.depth ≡ c.loop.stack.depth)) c.in-Some.is c.in_ok-line.ensures.depth in
    let text : AreTexts c.loop.stack.depth (take n rest) 1 =
    subst (λ (o : Option ℕ). IfSome o (λ len. AreTexts c.loop.stack.depth (take len rest) 1)) c.in-Some.is c.in_ok-line.ensures.text in
    let fits : at + n < 2 ^ 64 = search rules in
    record {
      depth = deep ∙ v.depth;
      within = omega (arith, within, long, high);
      few = omega (arith, few, some);
      texts = one_more c.reader_and_grammar.ensures.verdict c.args.depth slice at n c.loop.count within (omega (arith, long, high)) fits few v.texts
          (subst (λ (d : ℕ). AreTexts d (take n rest) 1) v.depth text);
    }
