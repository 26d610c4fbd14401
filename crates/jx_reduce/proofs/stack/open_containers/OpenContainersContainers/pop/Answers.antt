use Rattle.std.proofs.Common.{◌≡◌, vec_len, sym, ◌∙◌, ap, arith}
use Rattle.jx_reduce.specs.Read.{without_top}
use Rattle.jx_reduce.proofs.KnownWords.{nothing, word_less, refilled, emptied}
use Rattle.std.proofs.Common.{refl}
use Rattle.std.proofs.lemmas.List.{nil_from_length}
use Rattle.jx_reduce.proofs.stack.open_containers.OpenContainersContainers.pop.Goals as goal

pub returns-then-self-gt1 : goal.returns-then-self-gt1
returns-then-self-gt1 c = sym (word_less c.self.inside.count c.self.inside.bits _ (omega arith)) ∙ ap without_top c.self.view_is

pub returns-in-Some : goal.returns-in-Some
returns-in-Some c =
    sym (refilled c.self.inside.count c.self.inside.bits c.in-Some.word c.self.inside.words.items c.pop.new.self.items (omega arith) c.self.invariant.none c.in-Some.ensures.items)
    ∙ ap without_top c.self.view_is

pub returns-in-None : goal.returns-in-None
returns-in-None c =
    nothing 0 0 _ refl (nil_from_length c.pop.new.self.items (let e : vec_len c.pop.new.self ≡ 0 = c.in-None.ensures.cases.1 in omega arith))
    ∙ sym (emptied c.self.inside.count c.self.inside.bits c.self.inside.words.items (omega arith) (nil_from_length c.self.inside.words.items (let e : vec_len c.self.inside.words ≡ 0 = c.in-None.ensures.cases.0 in omega arith)))
    ∙ ap without_top c.self.view_is
