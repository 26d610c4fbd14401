use Rattle.std.proofs.Common.{◌≡◌, List, ℕ, Result, refl, ◌∙◌, sym}
use Rattle.std.specs.Prelude.{string_bytes}
use Rattle.std.proofs.lemmas.List.{length-map}
use Rattle.jx_index.specs.declared.find_fault.FindFault.{FindFault}
use Rattle.jx_index.specs.declared.finder.Found.{Found}
use Rattle.jx_index.specs.Found.{found_of}
use Rattle.jx_index.specs.Leads.{led}
use Rattle.jx_index.specs.Pointers.{tokens}
use Rattle.jx_index.proofs.Along.{as_many}
use Rattle.jx_line_values.specs.LineValues.{pointers_of}
use Rattle.jx_find.specs.PointerTrie.{alone}
use Rattle.jx_line_values.proofs.Verdicts.{cut_added, on_ok_both, values_added}
use Rattle.jx_line_values.proofs.answering.add_accepted.Goals as goal

pub returns-then-may_go_on : goal.returns-then-may_go_on
returns-then-may_go_on c =
    let x = c.requires.found in
    let d = (c.verdicts_with_a_refused_mark.ensures.texts (alone c.args.task.now.settings.depth) 0 c.args.bytes.now x.tree refl).0 x.is_text in
    on_ok_both c.add_none.result
    (λ w t mark.
    cut_added c.args.task.now mark c.args.number c.args.bytes.now c.args.is_ended c.args.ready.now.items c.add_none.new.ready.items c.args.told.now.items c.add_none.new.told.items
    c.requires.filled x.tree d (sym c.may_go_on.ensures ∙ c.if-may_go_on.true) w t)
    c.add_none.ensures.ready c.add_none.ensures.told

pub add_found_values-requires : goal.add_found_values-requires
add_found_values-requires c =
    let x = c.requires.found in
    sym (length-map c.args.task.now.pointers.items string_bytes)
    ∙ as_many (λ (p : List ℕ) (one : Result Found FindFault). one ≡ found_of (led c.args.bytes.now x.tree (tokens p))) (pointers_of c.args.task.now) c.args.found.now x.found_are

pub returns : goal.returns
returns c =
    let x = c.requires.found in
    let d = (c.verdicts_with_a_refused_mark.ensures.texts (alone c.args.task.now.settings.depth) 0 c.args.bytes.now x.tree refl).0 x.is_text in
    on_ok_both c.add_found_values.result
    (λ w t mark.
    values_added c.args.task.now mark c.args.number c.args.bytes.now c.args.is_ended c.args.ready.now.items c.add_found_values.new.ready.items c.args.told.now.items
    c.add_found_values.new.told.items c.reader_and_grammar.ensures.verdict c.args.found.now c.requires.filled x.tree d (sym c.may_go_on.ensures ∙ c.if-may_go_on.false) x.found_are w t)
    c.add_found_values.ensures.ready c.add_found_values.ensures.told
