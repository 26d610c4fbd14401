use Rattle.std.proofs.Common.{ap, ◌∙◌}
use Rattle.std.specs.Prelude.{String, string_bytes}
use Rattle.std.specs.declared.alloc.Global.{Global}
use Rattle.jx_words.proofs.PointerSteps.{read_step}
use Rattle.jx_words.proofs.pointer_answer.read_pointers.Goals as goal

pub loop-word-preserved : goal.loop-word-preserved
loop-word-preserved c =
    let read = c.read_pointer-read.result in
    read_step c.args.spelt.now c.word-item.result c.loop-word.word-index c.as_str.result.now c.loop-word.pointers.items c.push.new.self.items
    c.loop-word.unread.items c.push-in-loop-word.new.self.items read.pointer read.unread
    c.loop-word-test.true (c.as_str.ensures.value ∙ ap (λ (s : String Global). string_bytes s) c.word-item.is) c.loop-word.invariant
    c.read_pointer-read.ensures c.in_ok-push.ensures.items c.in_ok-push-2.ensures.items
