use Rattle.std.proofs.Common.{◌∙◌, ℕ, List, [], ap, sym, subst}
use Rattle.std.specs.Prelude.{Some}
use Rattle.jx_index.specs.Pointers.{tokens}
use Rattle.jx_each.specs.Each.{HasTakenBy}
use Rattle.jx_each.specs.inside.Paths.{path_of}
use Rattle.jx_each.proofs.Taking.{starts}
use Rattle.jx_each.proofs.each.Each.with_content.Goals as goal

pub returns-clause-taken : goal.returns-clause-taken
returns-clause-taken c =
    let reader = c.new.result in
    let pointer = c.args.pointer.now in
    let path = path_of c.in_ok-path.path.items in
    let is = c.in_ok-path.ensures ∙ ap tokens c.as_bytes.ensures.value in
    subst (λ (r : List ℕ). HasTakenBy c.args.content pointer [] [] (record { reader = reader; path = path; content = c.args.content; stand = Some c.stand_at_start.result; ready = r; part = c.new-3.result.items })) (sym c.new-2.ensures.items)
    (subst (λ (p : List ℕ). HasTakenBy c.args.content pointer [] [] (record { reader = reader; path = path; content = c.args.content; stand = Some c.stand_at_start.result; ready = []; part = p })) (sym c.new-3.ensures.items)
    (starts c.args.content reader path pointer c.stand_at_start.result _ c.new.ensures.reads c.new.ensures.start is c.stand_at_start.ensures (c.reader_and_grammar.ensures.by_settings reader.settings 0 [])))
