use Rattle.std.proofs.Common.{◌≡◌, ◌≤◌, ℕ, List, false, length, sym, subst, arith}
use Rattle.std.specs.Prelude.{IfSome, slice_range}
use Rattle.jx_lex.specs.declared.alphabet.lex_exit.LexExit.{LexExit}
use Rattle.jx_lex.specs.declared.alphabet.state.LexState.TheVariants.{Gap}
use Rattle.jx_lex.specs.Lex.{lex}
use Rattle.jx_lex.specs.Lex as lexical
use Rattle.jx_lex.specs.Seen.{Seen, SeesTrack}
use Rattle.jx_lex.specs.Exit.{exit_of}
use Rattle.jx_lex.proofs.Keeping.{exit-then, sees-then}
use Rattle.jx_run.proofs.readers.progress.read_between.Goals as goal

pub returns-then-at-to-clause-seen : goal.returns-then-at-to-clause-seen
returns-then-at-to-clause-seen g c =
    let old : Seen = g.S.TokenSink.has_seen c.args.stack.now in
    let new : Seen = g.S.TokenSink.has_seen c.passed.new.stack in
    subst (λ (k : ℕ). SeesTrack old new (lex Gap 0 (slice_range c.args.slice.now 0 k))) c.if-at-to.true c.in_ok-at.ensures.read.seen

pub returns-then-at-to-clause-exit : goal.returns-then-at-to-clause-exit
returns-then-at-to-clause-exit g c =
    sym (subst (λ (k : ℕ). (lex Gap 0 (slice_range c.args.slice.now 0 k)).exit ≡ lexical.state Gap) c.if-at-to.true c.in_ok-at.ensures.read.exit)

pub returns-clause-seen : goal.returns-clause-seen
returns-clause-seen g c =
    let old : Seen = g.S.TokenSink.has_seen c.args.stack.now in
    let mid : Seen = g.S.TokenSink.has_seen c.passed.new.stack in
    let new : Seen = g.S.TokenSink.has_seen c.scan.new.sink in
    let slice : List ℕ = c.args.slice.now in
    let high : c.args.to ≤ length slice = c.requires in
    let b : c.in_ok-at.at ≤ c.args.to = c.in_ok-at.ensures.bounds in
    let none : 0 ≤ c.in_ok-at.at = omega arith in
    sees-then slice 0 c.in_ok-at.at c.args.to Gap Gap old mid new none b (omega (arith, b, high)) c.in_ok-at.ensures.read c.in_ok-exit.ensures.seen

pub returns-clause-exit : goal.returns-clause-exit
returns-clause-exit g c =
    let slice : List ℕ = c.args.slice.now in
    let high : c.args.to ≤ length slice = c.requires in
    let b : c.in_ok-at.at ≤ c.args.to = c.in_ok-at.ensures.bounds in
    let none : 0 ≤ c.in_ok-at.at = omega arith in
    let same = exit-then slice 0 c.in_ok-at.at c.args.to Gap Gap none b (omega (arith, b, high)) c.in_ok-at.ensures.read.exit in
    subst (λ (x : lexical.LexExit). IfSome c.in_ok-exit.exit (λ (e : LexExit). exit_of e ≡ x)) (sym same) c.in_ok-exit.ensures.exit

pub scan-requires-clause-turn : goal.scan-requires-clause-turn
scan-requires-clause-turn g c = g.met.S.OpenStack.is_free c.passed.new.stack false
