use Rattle.std.proofs.Common.{◌∙◌, ap}
use Rattle.std.specs.Prelude.{◌||◌}
use Rattle.jx_lex.specs.inside.Bits.{bit}
use Rattle.jx_lex.proofs.Bits.{bit-and, bit-or}
use Rattle.jx_reduce.proofs.stack.next_words.to_name.Goals as goal

pub returns : goal.returns
returns c k =
    let t = c.args.kinds.now in
    bit-or _ _ k ∙ ap (λ b. bit t.open_objects k || b) (bit-and t.commas c.args.objects k)
