use Rattle.std.proofs.Common.{List, ℕ, ap, subst, sym}
use Rattle.std.specs.Prelude.{is_some, slice_range}
use Rattle.jx_lex.specs.Lex.{lex}
use Rattle.jx_reduce.specs.Read.{read as read_marks}
use Rattle.jx_run.specs.ReaderInside.{GoesOn}
use Rattle.jx_run.specs.declared.readers.progress.Progress.{Progress}
use Rattle.jx_run.proofs.ReaderSteps.{goes_on, slice_first}
use Rattle.jx_run.proofs.readers.progress.read_slice.Goals as goal

pub returns-clause-goes_on : goal.returns-clause-goes_on
returns-clause-goes_on g c = λ marks h.
    let old = g.S.OpenStack.known c.args.stack.now in
    let new = g.S.OpenStack.known c.read_to.new.stack in
    let sees = g.met.S.OpenStack.sees c.read_to.new.stack in
    let s = c.args.state in
    let xs = slice_range c.args.slice.now 0 c.args.to in
    subst (λ (ys : List ℕ). GoesOn old (lex s 0 ys) (read_marks old.depth (lex s 0 ys).marks old.reading) c.args.base c.settled.result new) (slice_first c.args.to c.args.slice.now)
    (subst (λ (p : Progress). GoesOn old (lex s 0 xs) (read_marks old.depth (lex s 0 xs).marks old.reading) c.args.base p new) (sym c.settled.ensures.value)
    (goes_on old new marks (lex s 0 xs) c.args.base c.in_ok-exit.exit c.whole.result h
    (λ ms es seen. sees _ _ (c.in_ok-exit.ensures.seen ms es (g.met.S.OpenStack.is_seen c.args.stack.now ms es seen))) c.in_ok-exit.ensures.exit
    (λ e ms more es others seen. sees _ _ (c.in_ok-exit.ensures.done (ap is_some e) ms more es others (g.met.S.OpenStack.is_seen c.read_to.new.stack ms es seen))) c.whole.ensures))
