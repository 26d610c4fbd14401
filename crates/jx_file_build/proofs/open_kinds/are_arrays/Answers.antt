use Rattle.std.proofs.Common.{◌≡◌, ℕ, ◌-◌, Bool, drop, false, length, replicate, take, ap, subst, ◌∙◌, arith}
use Rattle.std.specs.List.{All}
use Rattle.std.proofs.lemmas.List.{length-drop, take_all}
use Rattle.jx_lex.proofs.InArrays.{all_repeated}
use Rattle.jx_file_build.proofs.open_kinds.are_arrays.Goals as goal

pub returns : goal.returns
returns c = λ yes.
    let opened = c.args.are_objects.now in
    let before = length opened - c.args.count in
    let inner = drop before opened in
    let fits = c.if-count-are_objects.false in
    let long = length-drop before opened in
    let whole : take (length opened - before) inner ≡ inner = take_all (length opened - before) inner (omega (arith, long)) in
    let same = subst (All (λ (is_object : Bool). is_object ≡ false)) whole (c.are_all_arrays.ensures yes) in
    record { fits = omega (arith, fits); last = all_repeated false inner same ∙ ap (λ (n : ℕ). replicate n false) (omega (arith, fits, long)) }
