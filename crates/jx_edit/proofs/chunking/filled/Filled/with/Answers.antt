use Rattle.std.proofs.Common.{arith, ap, sym, ◌∙◌, ◌≡◌, ◌++◌, length, List, [], ℕ, append_assoc}
use Rattle.jx_edit.specs.inside.Chunks.{text_of}
use Rattle.jx_edit.specs.inside.Fills.{text_in}
use Rattle.jx_edit.proofs.Texts.{chunk_filled}
use Rattle.jx_edit.proofs.chunking.filled.Filled.with.Goals as goal

pub loop-alloc-init : goal.loop-alloc-init
loop-alloc-init c = record {
  fresh = c.requires.filled.fresh;
  short = c.requires.filled.short;
  text = sym (append_assoc (text_of c.args.self.chunks.items) c.args.self.begun.items c.args.bytes.now);
}

pub loop-alloc-preserved : goal.loop-alloc-preserved
loop-alloc-preserved c =
    let none : c.replace-full.new.dest.items ≡ [] = ap (λ v. v.items) c.replace-full.ensures.after ∙ c.in_ok-next.ensures.items in
    let p = chunk_filled c.args.depth c.loop-alloc.chunks.items c.push.new.self.items c.in_ok-of.field-0 c.loop-alloc.begun.items c.split_at.result.0.now c.split_at.result.1.now
    c.loop-alloc.rest.now (text_in c.args.self ++ c.args.bytes.now) c.in_ok-push.ensures.items c.in_ok-of.ensures.fresh
    (c.in_ok-of.ensures.bytes ∙ ap (λ v. v.items) c.replace-full.ensures.value ∙ c.in_ok-extend_from_slice.ensures.items) c.split_at.ensures.by_index.0
    c.loop-alloc.invariant.fresh c.loop-alloc.invariant.text in
    record {
      fresh = p.0;
      short = omega (arith, ap length none);
      text = ap (λ (t : List ℕ). text_of c.push.new.self.items ++ (t ++ c.split_at.result.1.now)) none ∙ p.1;
    }
