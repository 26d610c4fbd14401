use Rattle.std.proofs.Common.{◌≡◌, ◌-◌, length, take, drop, arith, length-drop}
use Rattle.std.proofs.lemmas.List.{take_all}
use Rattle.jx_reduce.proofs.Cuts.{RisingFrom-take, RisingFrom-drop, before_of_parts}
use Rattle.test_words.proofs.structures.parts_of.Goals as goal

pub structure_of-requires : goal.structure_of-requires
structure_of-requires c = record { rising = RisingFrom-take c.args.cut 0 c.args.marks.now c.requires.rising }

pub structure_of-requires-2 : goal.structure_of-requires-2
structure_of-requires-2 c =
    let all : take (length c.args.marks.now - c.args.cut) (drop c.args.cut c.args.marks.now) ≡ drop c.args.cut c.args.marks.now
    = take_all _ (drop c.args.cut c.args.marks.now) (omega (arith, length-drop c.args.cut c.args.marks.now)) in
    record { rising = rw all (RisingFrom-drop c.args.cut 0 c.args.marks.now c.requires.rising) }

pub returns-clause-before : goal.returns-clause-before
returns-clause-before c =
    let all : take (length c.args.marks.now - c.args.cut) (drop c.args.cut c.args.marks.now) ≡ drop c.args.cut c.args.marks.now
    = take_all _ (drop c.args.cut c.args.marks.now) (omega (arith, length-drop c.args.cut c.args.marks.now)) in
    before_of_parts c.args.cut c.args.marks.now c.in_ok-left.left c.in_ok-right.right c.requires.rising c.in_ok-left.ensures.offsets (rw all at c.in_ok-right.ensures.offsets)
