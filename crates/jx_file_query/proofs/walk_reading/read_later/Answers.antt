use Rattle.std.proofs.Common.{[], refl, ℕ, List, ◌++◌, length, subst, sym, Option}
use Rattle.std.specs.Prelude.{IsNone, slice_range}
use Rattle.jx_lex.specs.declared.alphabet.lex_exit.LexExit.{LexExit}
use Rattle.jx_lex.specs.Lex.{lex}
use Rattle.jx_run.specs.Telling.{moved_ends, moved_marks}
use Rattle.jx_run.proofs.ReaderSteps.{slice_all}
use Rattle.jx_find.specs.Held.{IsHeld}
use Rattle.jx_file_query.proofs.Wanting.{wants_more}
use Rattle.jx_file_query.proofs.walk_reading.read_later.Goals as goal

pub returns-in_ok-next-in-Some-State-clause-held : goal.returns-in_ok-next-in-Some-State-clause-held
returns-in_ok-next-in-Some-State-clause-held g c = λ bytes marks ends was.
    let next = c.in_ok-next-in-Some-State.next in
    let track = lex c.args.state 0 (slice_range c.args.slice.now 0 (length c.args.slice.now)) in
    subst (λ (xs : List ℕ). IsHeld (bytes ++ g.B.Before.slice) g.B.Before.edges (marks ++ moved_marks (length bytes) (lex c.args.state 0 xs).marks) (ends ++ moved_ends (length bytes) (lex c.args.state 0 xs).ends) next.state next.next next.begun next.name.items) (slice_all c.args.slice.now)
    (c.in_ok-next-in-Some-State.ensures.held track.marks track.ends (c.in_ok-exit.ensures.seen [] [] c.new-sink.ensures.seen) bytes marks ends was)

pub returns-in-None-clause-none : goal.returns-in-None-clause-none
returns-in-None-clause-none g c = λ bytes marks ends was to is.
    let k = c.scan.new.sink in
    wants_more g.B.Before.held g.B.Before.slice g.B.Before.edges _ _ k.slice.now k.base k.edges.now k.seeker k.begun k.name.items (c.in_ok-exit.ensures.done (subst (λ (o : Option LexExit). IsNone o) (sym c.in-None.is) refl))
    (c.in_ok-exit.ensures.seen [] [] c.new-sink.ensures.seen) bytes marks ends was
