use Rattle.std.proofs.Common.{◌≡◌, ◌≤◌, List, length, Some, ap, sym, ◌∙◌, subst, arith}
use Rattle.std.specs.Prelude.{reverse}
use Rattle.std.proofs.lemmas.List.{length-reverse}
use Rattle.jx_lex.specs.declared.alphabet.lex_exit.LexExit.{LexExit}
use Rattle.jx_lex.specs.declared.alphabet.lex_exit.LexExit.TheVariants as exit
use Rattle.jx_lex.specs.Lex as lexical
use Rattle.jx_lex.specs.Lex.{lex}
use Rattle.jx_lex.specs.Exit.{exit_of}
use Rattle.jx_reduce.specs.declared.table.holder.Holder.{Holder}
use Rattle.jx_reduce.specs.declared.table.outcome.Outcome.{Outcome}
use Rattle.jx_reduce.specs.Outcome.{reading_of}
use Rattle.jx_reduce.specs.Read.{went, read as read_marks}
use Rattle.jx_run.specs.OutcomeRun.{exit_at}
use Rattle.jx_run.specs.Reading.{at_exit, read}
use Rattle.jx_run.specs.ReaderInside.{GoesOn, settled}
use Rattle.jx_run.specs.declared.readers.progress.Progress.{Progress}
use Rattle.jx_run.proofs.ReaderSteps.{at_stopped, at_too_deep, run_goes, run_is, run_is_too_deep, run_stops}
use Rattle.jx_run.proofs.RunJoin.{Within, read-within}
use Rattle.jx_run.proofs.readers.reader.Reader.read_run.Goals.{in-Went+in-Fault, in-Stopped, in-TooDeep}
use Rattle.jx_run.proofs.readers.reader.Reader.read_run.Goals as goal

pub stand-requires : goal.stand-requires
stand-requires c =
    let run = c.args.run.now in
    let before = c.deref.result.now in
    let within = c.in_ok-expect.ensures.within in
    let short : length (reverse before) ≤ run.depth = omega (arith, length-reverse before, ap (λ (xs : List Holder). length xs) c.deref.ensures.value, within, c.requires.depth) in
    let there : at_exit (exit_of (exit.State c.in-State.state)) (went c.in-Went.expect (reverse c.in-Went.holders.items)) ≡ read run.depth c.args.state c.in_ok-expect.expect (reverse before) run.start c.requires.of.0 =
    sym (ap (λ (x : LexExit). at_exit (exit_of x) (reading_of c.in_ok-expect-2.field-0)) c.in-State.is ∙ ap (λ (o : Outcome). at_exit (exit_of (exit.State c.in-State.state)) (reading_of o)) c.in-Went.is)
    ∙ ap (λ (z : lexical.LexExit). at_exit z (reading_of c.in_ok-expect-2.field-0)) c.exit-exit.ensures.exit
    ∙ ap (at_exit (exit_at run c.args.state)) c.in_ok-expect-2.ensures
    ∙ c.entry.ensures.reads c.requires.of.0 c.requires.of.1 (reverse before) short in
    let low : length (reverse c.in-Went.holders.items) ≤ run.depth =
    subst (Within run.depth) (sym there) (read-within run.depth c.requires.of.0 c.args.state c.in_ok-expect.expect (reverse before) run.start short) in
    let after = c.deref-in-State.result.now in
    record {
      within = omega (arith, low, length-reverse c.in-Went.holders.items, ap (λ (xs : List Holder). length xs) c.deref-in-State.ensures.value, c.requires.depth, c.take_standing.ensures.depth);
    }

pub returns-in-State-clause-goes_on : goal.returns-in-State-clause-goes_on
returns-in-State-clause-goes_on c = λ marks more h r.
    let run = c.args.run.now in
    let before = c.deref.result.now in
    let within = c.in_ok-expect.ensures.within in
    let short : length (reverse before) ≤ run.depth = omega (arith, length-reverse before, ap (λ (xs : List Holder). length xs) c.deref.ensures.value, within, c.requires.depth) in
    let is =
    run_is run c.args.state c.in_ok-expect.expect (reverse before) more c.args.stack.now c.exit-exit.result (reading_of c.in_ok-expect-2.field-0) _ c.requires.depth c.requires.start
    (c.in_ok-expect.ensures.standing ∙ ap (λ (xs : List Holder). went c.in_ok-expect.expect (reverse xs)) (sym c.deref.ensures.value)) c.exit-exit.ensures.exit c.in_ok-expect-2.ensures
    (c.entry.ensures.reads more r (reverse before) short) in
    run_goes c.args.base c.args.stack.now c.stand.new.self (lex c.args.state 0 more) (c.in_ok-stand-in-State.ensures.depth ∙ c.take_standing.ensures.depth) c.in-State.state c.in-Went.expect
    (reverse c.in-Went.holders.items) marks h
    (is
    ∙ ap (λ (x : LexExit). at_exit (exit_of x) (reading_of c.in_ok-expect-2.field-0)) c.in-State.is
    ∙ ap (λ (o : Outcome). at_exit (exit_of (exit.State c.in-State.state)) (reading_of o)) c.in-Went.is)
    (c.in_ok-stand-in-State.ensures.standing ∙ ap (λ (xs : List Holder). went c.in-Went.expect (reverse xs)) c.deref-in-State.ensures.value)

pub returns-clause-goes_on : goal.returns-clause-goes_on
returns-clause-goes_on c = λ marks more h r.
    let run = c.args.run.now in
    let old = c.args.stack.now in
    let new = c.reset.new.self in
    let base = c.args.base in
    let track = lex c.args.state 0 more in
    let before = c.deref.result.now in
    let within = c.in_ok-expect.ensures.within in
    let short : length (reverse before) ≤ run.depth = omega (arith, length-reverse before, ap (λ (xs : List Holder). length xs) c.deref.ensures.value, within, c.requires.depth) in
    let x = c.exit-exit.result in
    let is =
    run_is run c.args.state c.in_ok-expect.expect (reverse before) more old x (reading_of c.in_ok-expect-2.field-0) _ c.requires.depth c.requires.start
    (c.in_ok-expect.ensures.standing ∙ ap (λ (xs : List Holder). went c.in_ok-expect.expect (reverse xs)) (sym c.deref.ensures.value)) c.exit-exit.ensures.exit c.in_ok-expect-2.ensures
    (c.entry.ensures.reads more r (reverse before) short) in
    let kept = c.reset.ensures.depth ∙ c.take_standing.ensures.depth in
    let come = λ (o : Outcome). at_exit (exit_of x) (reading_of o) in
    let at = λ (p : Progress). GoesOn old track (read_marks old.depth track.marks old.reading) base p new in
    elim c.match-branch-3.branch [
      | in-Went+in-Fault w ↦
          subst at (sym (c.settled.ensures.value ∙ ap (settled base (Some c.match-branch-3.exit)) w.whole-is))
          (run_stops base old new track kept w.in-Fault.at
          (is ∙ ap come w.in-Went.is ∙ ap (λ (z : LexExit). at_exit (exit_of z) (went w.in-Went.expect (reverse w.in-Went.holders.items))) w.in-Fault.is) c.reset.ensures.reads)
      | in-Stopped w ↦
          subst at (sym (c.settled.ensures.value ∙ ap (settled base (Some c.match-branch-3.exit)) w.whole-is))
          (run_stops base old new track kept w.in-Stopped.at (is ∙ ap come w.in-Stopped.is ∙ at_stopped (exit_of x) w.in-Stopped.at) c.reset.ensures.reads)
      | in-TooDeep w ↦
          subst at (sym (c.settled.ensures.value ∙ ap (settled base (Some c.match-branch-3.exit)) w.whole-is))
          (run_is_too_deep base old new track kept w.in-TooDeep.at (is ∙ ap come w.in-TooDeep.is ∙ at_too_deep (exit_of x) w.in-TooDeep.at) c.reset.ensures.reads)
    ]
