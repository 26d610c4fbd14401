use Rattle.std.proofs.Common.{◌≡◌, ◌++◌, ◌<◌, ℕ, List, length, arith}
use Rattle.std.specs.String.{string_bytes}
use Rattle.std.proofs.lemmas.Grind.{common_steps}
use Rattle.jx_sentence.specs.Shown.{shown}
use Rattle.jx_sentence.proofs.ShownPieces.{shown_end, shown_on}
use Rattle.jx_sentence.proofs.shown.push_shown.Goals as goal

pub loop-rest-preserved : goal.loop-rest-preserved
loop-rest-preserved c =
    let rest : List ℕ = c.loop-rest.rest.now in
    let some : 0 < length rest = grind (arith, common_steps) in
    shown_on (string_bytes c.loop-rest.out) (string_bytes c.push_first.new.out) (string_bytes c.args.out.now ++ shown c.args.bytes.now) rest c.in_ok-size.size
    c.loop-rest.invariant c.in_ok-size.ensures.shown c.in_ok-size.ensures.size.0 some

pub returns : goal.returns
returns c =
    let none : length c.loop-rest.rest.now ≡ 0 = grind (arith, common_steps) in
    shown_end (string_bytes c.loop-rest.out) (string_bytes c.args.out.now ++ shown c.args.bytes.now) c.loop-rest.rest.now c.loop-rest.invariant none
