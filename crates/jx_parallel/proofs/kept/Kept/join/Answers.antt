use Rattle.std.proofs.Common.{◌≡◌, ◌+◌, ◌++◌, length, sym, ap, ◌∙◌, subst, arith}
use Rattle.jx_summary.specs.declared.span.Span.{Span}
use Rattle.jx_parallel.specs.Offsets.{StandThere}
use Rattle.jx_parallel.specs.inside.Kept.{KeptValue}
use Rattle.jx_parallel.proofs.There.{both_there}
use Rattle.jx_parallel.proofs.kept.Kept.join.Goals as goal

pub invariant_of-result : goal.invariant_of-result
invariant_of-result g c =
    let l = c.self.invariant in
    let r = c.right.invariant in
    let span = c.in-Ok.ensures.span in
    let touch : c.self.inside.at + c.self.inside.run.end ≡ c.right.inside.at =
    subst (λ (k : KeptValue). c.self.inside.at + c.self.inside.run.end ≡ k.at) (sym c.right.view_is)
    (subst (λ (k : KeptValue). k.at + k.run.end ≡ c.args.right.at) (sym c.self.view_is) c.requires) in
    let len : c.span-len.result.end ≡ c.self.inside.run.end = ap (λ (s : Span). s.end) c.span-len.ensures.span in
    let meet : c.right.inside.at ≡ c.self.inside.at + length l.bytes = omega (arith, touch, l.of.long, l.start) in
    record {
      depth_is = c.in-Ok.ensures.depth ∙ l.depth_is;
      start = ap (λ (s : Span). s.start) span ∙ l.start;
      bytes = l.bytes ++ r.bytes;
      of = c.in-Ok.ensures.of l.bytes r.bytes l.of (c.shifted-other.ensures.of r.bytes r.of);
      there = both_there g.K.Known.text c.self.inside.at l.bytes r.bytes l.there (subst (λ n. StandThere g.K.Known.text n r.bytes) meet r.there);
      fits = omega (arith, r.fits, ap (λ (s : Span). s.end) span, c.shifted-other.ensures.end, len, touch);
    }
