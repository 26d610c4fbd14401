use Rattle.std.proofs.Common.{◌≡◌, ℕ, arith, sym, subst, ap, ◌∙◌, Option}
use Rattle.std.specs.Prelude.{slice_range, IfSome, is_some}
use Rattle.jx_lex.specs.declared.alphabet.lex_exit.LexExit.{LexExit}
use Rattle.jx_lex.specs.declared.alphabet.state.LexState.TheVariants.{Gap}
use Rattle.jx_lex.specs.Lex as reading
use Rattle.jx_lex.specs.Lex.{lex, Track}
use Rattle.jx_lex.specs.Seen.{AwaitsAt, GoesTo, SeesTrack}
use Rattle.jx_lex.specs.Exit.{exit_of}
use Rattle.jx_lex.proofs.Keeping.{goes-none}
use Rattle.jx_run.proofs.Paces.{fault_ends, done_sees, exit_then, sees_then}
use Rattle.jx_run.proofs.readers.one_pass.scan_by.Goals as goal

pub loop-at-init : goal.loop-at-init
loop-at-init g c =
    let b = c.requires.bounds in
    record { low = omega arith; high = b.0; read = goes-none c.args.text.now c.args.from Gap (g.K.TokenSink.has_seen c.args.sink.now); turn = c.requires.turn }

pub returns-in_default-clause-seen : goal.returns-in_default-clause-seen
returns-in_default-clause-seen g c =
    let v = c.loop-at.invariant in
    let xs = c.args.text.now in
    let at = c.loop-at.at in
    let stop = c.stop_within-stop.result in
    let b = c.stop_within-stop.ensures in
    let fits = c.requires.bounds.1 in
    let old = g.K.TokenSink.has_seen c.loop-at.sink in
    let new = g.K.TokenSink.has_seen c.scan.new.sink in
    sees_then c.lex_of_two_parts.ensures.stretch xs c.args.from at c.args.to Gap v.low v.high (let h = v.high in omega (arith, fits, h)) c.loop-at.state v.read.exit (g.K.TokenSink.has_seen c.args.sink.now) old new v.read.seen
    (done_sees c.lex_of_two_parts.ensures.stretch xs at stop c.args.to c.loop-at.state (omega (arith, b)) b.1 (let h = b.1 in omega (arith, fits, h)) old new c.in_ok-exit.ensures.seen (c.in_ok-exit.ensures.done (ap is_some c.in_default.is)))

pub returns-in-Fault-clause-seen : goal.returns-in-Fault-clause-seen
returns-in-Fault-clause-seen g c =
    let v = c.loop-at.invariant in
    let xs = c.args.text.now in
    let at = c.loop-at.at in
    let stop = c.stop_within-stop.result in
    let b = c.stop_within-stop.ensures in
    let fits = c.requires.bounds.1 in
    let old = g.K.TokenSink.has_seen c.loop-at.sink in
    let new = g.K.TokenSink.has_seen c.scan.new.sink in
    let track = lex c.loop-at.state at (slice_range xs at stop) in
    let e : exit_of c.in-Some.exit ≡ track.exit = subst (λ (o : Option LexExit). IfSome o (λ e. exit_of e ≡ track.exit)) c.in-Some.is c.in_ok-exit.ensures.exit in
    let f : track.exit ≡ reading.fault c.in-Fault.fault = sym e ∙ ap exit_of c.in-Fault.is in
    sees_then c.lex_of_two_parts.ensures.stretch xs c.args.from at c.args.to Gap v.low v.high (let h = v.high in omega (arith, fits, h)) c.loop-at.state v.read.exit (g.K.TokenSink.has_seen c.args.sink.now) old new v.read.seen
    (subst (λ (x : Track). SeesTrack old new x) (sym (fault_ends c.lex_of_two_parts.ensures.stretch xs at stop c.args.to c.loop-at.state (omega (arith, b)) b.1 (let h = b.1 in omega (arith, fits, h)) c.in-Fault.fault f)) c.in_ok-exit.ensures.seen)

pub returns-in-Fault-clause-exit : goal.returns-in-Fault-clause-exit
returns-in-Fault-clause-exit g c =
    let v = c.loop-at.invariant in
    let xs = c.args.text.now in
    let at = c.loop-at.at in
    let stop = c.stop_within-stop.result in
    let b = c.stop_within-stop.ensures in
    let fits = c.requires.bounds.1 in
    let track = lex c.loop-at.state at (slice_range xs at stop) in
    let e : exit_of c.in-Some.exit ≡ track.exit = subst (λ (o : Option LexExit). IfSome o (λ e. exit_of e ≡ track.exit)) c.in-Some.is c.in_ok-exit.ensures.exit in
    let f : track.exit ≡ reading.fault c.in-Fault.fault = sym e ∙ ap exit_of c.in-Fault.is in
    sym (
    exit_then c.lex_of_two_parts.ensures.stretch xs c.args.from at c.args.to Gap v.low v.high (let h = v.high in omega (arith, fits, h)) c.loop-at.state v.read.exit
    ∙ ap (λ (t : Track). t.exit) (fault_ends c.lex_of_two_parts.ensures.stretch xs at stop c.args.to c.loop-at.state (omega (arith, b)) b.1 (let h = b.1 in omega (arith, fits, h)) c.in-Fault.fault f)
    ∙ f)

pub loop-at-preserved : goal.loop-at-preserved
loop-at-preserved g c =
    let v = c.loop-at.invariant in
    let xs = c.args.text.now in
    let at = c.loop-at.at in
    let stop = c.stop_within-stop.result in
    let b = c.stop_within-stop.ensures in
    let fits = c.requires.bounds.1 in
    let low = v.low in
    let old = g.K.TokenSink.has_seen c.loop-at.sink in
    let new = g.K.TokenSink.has_seen c.scan.new.sink in
    let track = lex c.loop-at.state at (slice_range xs at stop) in
    let e : exit_of c.in-Some.exit ≡ track.exit = subst (λ (o : Option LexExit). IfSome o (λ e. exit_of e ≡ track.exit)) c.in-Some.is c.in_ok-exit.ensures.exit in
    let next : track.exit ≡ reading.state c.in-State.next = sym e ∙ ap exit_of c.in-State.is in
    let here : GoesTo old new track c.in-State.next = record { seen = c.in_ok-exit.ensures.seen; exit = next } in
    record {
      low = omega (arith, b, low);
      high = b.1;
      turn = subst (AwaitsAt (g.K.TokenSink.awaits c.scan.new.sink)) c.in-State.is (subst (λ (o : Option LexExit). IfSome o (AwaitsAt (g.K.TokenSink.awaits c.scan.new.sink))) c.in-Some.is c.in_ok-exit.ensures.turn);
      read = record {
        seen = sees_then c.lex_of_two_parts.ensures.stretch xs c.args.from at stop Gap low (omega (arith, b)) (let h = v.high in omega (arith, fits, h)) c.loop-at.state v.read.exit (g.K.TokenSink.has_seen c.args.sink.now) old new v.read.seen here.seen;
        exit = exit_then c.lex_of_two_parts.ensures.stretch xs c.args.from at stop Gap low (omega (arith, b)) (let h = v.high in omega (arith, fits, h)) c.loop-at.state v.read.exit ∙ here.exit;
      };
    }

pub returns-clause-seen : goal.returns-clause-seen
returns-clause-seen g c =
    let v = c.loop-at.invariant in
    let high = v.high in
    let same : c.loop-at.at ≡ c.args.to = omega (arith, high, c.loop-at-test.false) in
    (subst (λ (k : ℕ). GoesTo (g.K.TokenSink.has_seen c.args.sink.now) (g.K.TokenSink.has_seen c.loop-at.sink) (lex Gap c.args.from (slice_range c.args.text.now c.args.from k)) c.loop-at.state) same v.read).seen

pub returns-clause-exit : goal.returns-clause-exit
returns-clause-exit g c =
    let v = c.loop-at.invariant in
    let high = v.high in
    let same : c.loop-at.at ≡ c.args.to = omega (arith, high, c.loop-at-test.false) in
    sym (subst (λ (k : ℕ). (lex Gap c.args.from (slice_range c.args.text.now c.args.from k)).exit ≡ reading.state c.loop-at.state) same v.read.exit)
