use Rattle.std.proofs.Common.{◌∙◌, ℕ, List, subst, sym}
use Rattle.std.specs.Prelude.{slice_range}
use Rattle.std.proofs.lemmas.Result.{on_ok_weaker}
use Rattle.jx_run.specs.Verdict.{Judged}
use Rattle.jx_run.specs.declared.texts.verdict.Verdict.TheVariants.{Refused}
use Rattle.jx_line_values.proofs.Verdicts.{blank_added, on_ok_both, refused_added}
use Rattle.jx_line_values.proofs.answering.add_line.Goals as goal

pub returns-then-are_blanks : goal.returns-then-are_blanks
returns-then-are_blanks c =
    let bytes : List ℕ = slice_range c.args.at.slice.now 0 c.args.at.len in
    on_ok_both c.add_none.result
    (blank_added c.args.task.now c.args.at.mark c.args.at.number bytes c.args.at.is_ended c.args.ready.now.items c.add_none.new.ready.items c.args.told.now.items c.add_none.new.told.items
    (sym c.are_blanks.ensures ∙ c.if-are_blanks.true))
    c.add_none.ensures.ready c.add_none.ensures.told

pub returns-in-Some : goal.returns-in-Some
returns-in-Some c =
    let bytes : List ℕ = slice_range c.args.at.slice.now 0 c.args.at.len in
    on_ok_both c.add_none-in-Some.result
    (refused_added c.args.task.now c.args.at.mark c.args.at.number bytes c.args.at.is_ended c.args.ready.now.items c.add_none-in-Some.new.ready.items c.args.told.now.items
    c.add_none-in-Some.new.told.items c.in-Some.refusal (sym c.are_blanks.ensures ∙ c.if-are_blanks.false) (c.in-Some.ensures.some c.args.task.now))
    c.add_none-in-Some.ensures.ready c.add_none-in-Some.ensures.told

pub returns-in-Refused : goal.returns-in-Refused
returns-in-Refused c =
    let bytes : List ℕ = slice_range c.args.at.slice.now 0 c.args.at.len in
    on_ok_both c.add_none-in-Refused.result
    (refused_added c.args.task.now c.args.at.mark c.args.at.number bytes c.args.at.is_ended c.args.ready.now.items c.add_none-in-Refused.new.ready.items c.args.told.now.items
    c.add_none-in-Refused.new.told.items c.in-Refused.refusal (sym c.are_blanks.ensures ∙ c.if-are_blanks.false)
    (c.in-None.ensures.none c.args.task.now (Refused c.in-Refused.refusal)
    (subst (Judged 0 bytes c.args.task.now.settings.depth) c.in-Refused.is c.in_ok-refusal-in-None.ensures.verdict)))
    c.add_none-in-Refused.ensures.ready c.add_none-in-Refused.ensures.told

pub returns-in-Accepted : goal.returns-in-Accepted
returns-in-Accepted c = on_ok_weaker c.add_accepted.result (λ added. added c.args.at.mark) c.add_accepted.ensures
