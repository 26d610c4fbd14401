use Rattle.std.proofs.Common.{arith, ap, ◌∙◌, ◌≡◌, ℕ}
use Rattle.std.specs.List.{slice_range}
use Rattle.jx_edit.proofs.Parted.{fresh_joined, popped, text_joined}
use Rattle.jx_edit.proofs.chunking.making.joined.Goals as goal

pub loop-part-preserved-then-part-done : goal.loop-part-preserved-then-part-done
loop-part-preserved-then-part-done c =
    let bytes = c.args.bytes.now in
    let part = c.in_ok-part.part in
    let both = popped bytes c.args.depth c.loop-part.made.items c.pop.new.self.items c.pop.result c.in-Some.part part c.pop.ensures.items c.loop-part.invariant.made c.in-Some.is c.in_ok-part.was in
    let same : part.span.start ≡ c.loop-part.done = omega arith in
    record {
      size = c.requires.size;
      within = both.0.within;
      fresh = fresh_joined c.args.depth c.loop-part.chunks.items part.chunks.items c.append.new.self.items c.in_ok-append.ensures.items c.loop-part.invariant.fresh both.0.fresh;
      text =
          text_joined c.loop-part.chunks.items part.chunks.items c.append.new.self.items bytes c.loop-part.done part.span.end (omega (arith, both.0.order, same)) c.in_ok-append.ensures.items
          c.loop-part.invariant.text (both.0.text ∙ ap (λ (n : ℕ). slice_range bytes n part.span.end) same);
      made = both.1;
    }
