use Rattle.std.proofs.Common.{◌≤◌, ℕ, List, length, sym, ◌∙◌, ap, subst}
use Rattle.std.specs.Prelude.{reverse}
use Rattle.jx_lex.specs.Lex as lexical
use Rattle.jx_reduce.specs.Outcome.{reading_of}
use Rattle.jx_reduce.specs.Structure.{answer_from}
use Rattle.jx_reduce.specs.declared.table.holder.Holder.{Holder}
use Rattle.jx_run.specs.OutcomeRun.{exit_at}
use Rattle.jx_run.specs.Reading.{at_exit, read}
use Rattle.jx_run.proofs.RunJoin.{read-within}
use Rattle.jx_edit.specs.inside.Places.{PlaceValue, read_on}
use Rattle.jx_edit.proofs.Links.{led_within}
use Rattle.jx_edit.proofs.reading.led.follow_run.Goals as goal

pub returns : goal.returns
returns c =
    let run = c.args.run.now in
    let state = c.from.inside.state in
    let expect = c.from.inside.expect in
    let hs = reverse c.from.inside.holders.items in
    let short = subst (λ (p : PlaceValue). length p.holders ≤ run.depth) (sym c.from.view_is) c.requires.within in
    record {
      reads = λ bytes h.
          c.arrived.ensures
          ∙ ap (λ (z : lexical.LexExit). at_exit z (reading_of c.in_ok-outcome.outcome)) c.exit-exit.ensures.exit
          ∙ ap (at_exit (exit_at run state)) c.in_ok-outcome.ensures
          ∙ ap (λ (xs : List Holder). at_exit (exit_at run state) (answer_from c.entry-reduced.result (reverse xs))) c.deref.ensures.value
          ∙ c.entry-reduced.ensures.reads bytes h hs short
          ∙ ap (λ (i : ℕ). read run.depth state expect hs i bytes) c.requires.start
          ∙ ap (λ (p : PlaceValue). read_on run.depth p bytes) c.from.view_is;
      within = λ bytes h.
          led_within run.depth c.arrived.result (read run.depth state expect hs run.start bytes)
          (c.arrived.ensures
          ∙ ap (λ (z : lexical.LexExit). at_exit z (reading_of c.in_ok-outcome.outcome)) c.exit-exit.ensures.exit
          ∙ ap (at_exit (exit_at run state)) c.in_ok-outcome.ensures
          ∙ ap (λ (xs : List Holder). at_exit (exit_at run state) (answer_from c.entry-reduced.result (reverse xs))) c.deref.ensures.value
          ∙ c.entry-reduced.ensures.reads bytes h hs short)
          (read-within run.depth bytes state expect hs run.start short);
    }
