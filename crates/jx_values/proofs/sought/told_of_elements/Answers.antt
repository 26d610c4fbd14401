use Rattle.std.proofs.Common.{length, ap, subst, sym, ◌∙◌}
use Rattle.std.proofs.lemmas.Result.{IfOk-weaker}
use Rattle.jx_run.specs.Settings.{JudgedBy}
use Rattle.jx_values.specs.Elements.{TellsByVerdict}
use Rattle.jx_values.specs.inside.Sought.{HasSought, any_names}
use Rattle.jx_values.proofs.Lookups.{taken_alone, tells_found, tells_root}
use Rattle.jx_values.proofs.sought.told_of_elements.Goals as goal

pub returns-in-Some : goal.returns-in-Some
returns-in-Some c =
    let settings = c.args.each.now.reader.settings in
    let pointer = c.args.pointer.now in
    IfOk-weaker c.told_of_sought.result _ _
    (λ told found. λ text given taken looked judged.
    subst (λ v. TellsByVerdict c.args.content settings pointer text v told.items) (sym c.in-Accepted.is)
    (tells_found c.args.content settings pointer text told.items c.token_count.result (c.token_count.ensures ∙ ap length taken.path_is)
    (found (any_names settings) text (subst (λ f. HasSought c.args.content (any_names settings) pointer text f) c.in-Some.is looked))))
    c.told_of_sought.ensures

pub returns-in-None : goal.returns-in-None
returns-in-None c =
    let settings = c.args.each.now.reader.settings in
    let pointer = c.args.pointer.now in
    IfOk-weaker c.told_of_root.result _ _
    (λ told e. λ text given taken looked judged.
    subst (λ v. TellsByVerdict c.args.content settings pointer text v told.items) (sym c.in-Accepted.is)
    (tells_root c.args.content settings pointer text told.items c.is_container.result (subst (λ f. HasSought c.args.content (any_names settings) pointer text f) c.in-None.is looked)
    (subst (λ v. JudgedBy settings 0 text v) c.in-Accepted.is judged)
    (λ tree d. c.is_container.ensures pointer text given tree (taken_alone c.args.content (any_names settings) pointer text given c.args.each.now (subst (λ f. HasSought c.args.content (any_names settings) pointer text f) c.in-None.is looked) taken) d) e))
    c.told_of_root.ensures
