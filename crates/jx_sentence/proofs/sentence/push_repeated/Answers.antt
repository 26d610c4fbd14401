use Rattle.std.proofs.Common.{◌≡◌, ◌++◌, ℕ, List, ap}
use Rattle.std.specs.Prelude.{codes}
use Rattle.std.specs.String.{string_bytes}
use Rattle.jx_sentence.specs.Shown.{shown}
use Rattle.jx_sentence.specs.Words.{repeated}
use Rattle.jx_sentence.proofs.Listed.{joins, pushed}
use Rattle.jx_sentence.proofs.sentence.push_repeated.Goals as goal

pub returns-in-None : goal.returns-in-None
unfolding repeated
returns-in-None c =
    let base : List ℕ = string_bytes c.args.out.now in
    let name : List ℕ = shown c.args.name.now in
    let before : string_bytes c.push_shown.new.out ≡ base ++ (codes "the name " ++ name) =
    joins (string_bytes c.push_shown.new.out) (string_bytes c.push_str.new.self) base (codes "the name ") name c.in_ok-push_shown.ensures c.in_ok-push_str.ensures.bytes in
    pushed c.push_str-in-None.result (string_bytes c.push_str-in-None.new.self) (string_bytes c.push_shown.new.out) base (codes "the name " ++ name) (codes " was used before")
    (repeated c.args.name.now c.args.earlier) c.push_str-in-None.ensures.bytes before (ap (repeated c.args.name.now) c.in-None.is)
