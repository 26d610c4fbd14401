use Rattle.std.proofs.Common.{◌≡◌, ◌+◌, ◌*◌, sym, ◌∙◌, ap, length, arith}
use Rattle.jx_reduce.proofs.KnownWords.{length_all}
use Rattle.jx_reduce.proofs.stack.open_containers.OpenContainersContainers.len.Goals as goal

pub returns : goal.returns
returns c =
    let all : length c.self.inside.words.items * 64 + c.self.inside.count ≡ length c.args.self.now =
    sym (length_all c.self.inside.count c.self.inside.bits c.self.inside.words.items) ∙ ap length c.self.view_is
    in omega arith

pub overflow_mul-result : goal.overflow_mul-result
overflow_mul-result c = let all = returns c in omega arith

pub overflow_add-result : goal.overflow_add-result
overflow_add-result c = let all = returns c in omega arith
