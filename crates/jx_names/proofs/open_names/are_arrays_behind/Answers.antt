use Rattle.std.proofs.Common.{◌≡◌, ℕ, ◌-◌, drop, length, replicate, take, ap, subst, ◌∙◌, arith}
use Rattle.std.specs.List.{All}
use Rattle.std.proofs.lemmas.List.{length-drop, take_all}
use Rattle.jx_lex.proofs.InArrays.{all_repeated}
use Rattle.jx_names.specs.declared.open_names.Container.{Container}
use Rattle.jx_names.specs.inside.InArrays.{array_behind}
use Rattle.jx_names.proofs.open_names.are_arrays_behind.Goals as goal

pub returns : goal.returns
returns c = λ yes.
    let opened = c.args.opened.now in
    let array = array_behind c.args.names in
    let before = length opened - c.args.count in
    let inner = drop before opened in
    let fits = c.if-count-opened.false in
    let long = length-drop before opened in
    let whole : take (length opened - before) inner ≡ inner = take_all (length opened - before) inner (omega (arith, long)) in
    let same = subst (All (λ (container : Container). container ≡ array)) whole (c.are_all_behind.ensures yes) in
    record { fits = omega (arith, fits); last = all_repeated array inner same ∙ ap (λ (n : ℕ). replicate n array) (omega (arith, fits, long)) }
