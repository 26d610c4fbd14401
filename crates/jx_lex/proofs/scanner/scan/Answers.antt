use Rattle.std.proofs.Common.{◌≡◌, ℕ, arith, refl, sym, subst, ap, ◌∙◌, ◌+◌}
use Rattle.std.specs.Prelude.{slice_range}
use Rattle.jx_lex.specs.Lex as reading
use Rattle.jx_lex.specs.Lex.{lex, Track}
use Rattle.jx_lex.specs.Seen.{GoesTo}
use Rattle.jx_lex.proofs.Keeping.{goes-byte, goes-then, sees-then, exit-then, fault-at, sees-same}
use Rattle.jx_lex.proofs.scanner.scan.Goals as goal

pub loop-i-init : goal.loop-i-init
loop-i-init g c =
    let p = c.in_ok-begin.ensures in
    record { low = p.bounds.0; high = p.bounds.1; sound = c.known_ahead-ahead.ensures.sound c.args.text.now; read = p.read; turn = p.turn }

pub returns-then-is_done-clause-seen : goal.returns-then-is_done-clause-seen
returns-then-is_done-clause-seen g c =
    let v = c.loop-i.invariant in
    let seen = g.K.TokenSink.has_seen c.loop-i.sink in
    let rest = lex c.loop-i.state c.loop-i.i (slice_range c.args.text.now c.loop-i.i c.args.to) in
    sees-then c.args.text.now c.args.from c.loop-i.i c.args.to c.args.state c.loop-i.state (g.K.TokenSink.has_seen c.args.sink.now) seen seen v.low v.high (let fits = c.requires.bounds.1 in omega (arith, fits, v.high)) v.read
    (λ marks ends h. c.if-is_done.ensures refl marks rest.marks ends rest.ends h)

pub returns-in_default-clause-seen : goal.returns-in_default-clause-seen
returns-in_default-clause-seen g c =
    let v = c.loop-i.invariant in
    let xs = c.args.text.now in
    let i = c.loop-i.i in
    let fits = c.requires.bounds.1 in
    let mid = g.K.TokenSink.has_seen c.loop-i.sink in
    let new = g.K.TokenSink.has_seen c.take_byte.new.sink in
    sees-then xs c.args.from i c.args.to c.args.state c.loop-i.state (g.K.TokenSink.has_seen c.args.sink.now) mid new v.low v.high (omega (arith, fits, v.high)) v.read
    (sees-same mid new _ _ (fault-at xs i c.args.to c.loop-i.state c.loop-i-test.true fits (sym c.in_ok-next.ensures.next ∙ c.in_default.is)) c.in_ok-next.ensures.seen)

pub returns-in_default-clause-exit : goal.returns-in_default-clause-exit
returns-in_default-clause-exit g c =
    let v = c.loop-i.invariant in
    let xs = c.args.text.now in
    let i = c.loop-i.i in
    let fits = c.requires.bounds.1 in
    sym (
    exit-then xs c.args.from i c.args.to c.args.state c.loop-i.state v.low v.high (omega (arith, fits, v.high)) v.read.exit
    ∙ ap (λ (t : Track). t.exit) (fault-at xs i c.args.to c.loop-i.state c.loop-i-test.true fits (sym c.in_ok-next.ensures.next ∙ c.in_default.is)))

pub loop-i-preserved : goal.loop-i-preserved
loop-i-preserved g c =
    let v = c.loop-i.invariant in
    let xs = c.args.text.now in
    let i = c.loop-i.i in
    let fits = c.requires.bounds.1 in
    let on = c.in_ok-end in
    let b = on.ensures.bounds in
    let low = v.low in
    let first = g.K.TokenSink.has_seen c.args.sink.now in
    let old = g.K.TokenSink.has_seen c.loop-i.sink in
    let mid = g.K.TokenSink.has_seen c.take_byte.new.sink in
    let new = g.K.TokenSink.has_seen c.read_rest.new.sink in
    let byte : GoesTo old mid (lex c.loop-i.state i (slice_range xs i (i + 1))) c.in-Some.next =
    goes-byte xs i c.loop-i.state c.in-Some.next old mid (omega (arith, fits, c.loop-i-test.true)) c.in_ok-next.ensures.seen (sym c.in_ok-next.ensures.next ∙ c.in-Some.is) in
    record {
      low = omega (arith, b, low);
      high = b.1;
      sound = on.ensures.sound;
      turn = on.ensures.turn;
      read = goes-then xs c.args.from i on.end c.args.state c.loop-i.state c.read_rest.new.state first old new low (omega (arith, b)) (omega (arith, fits, v.high)) v.read
          (goes-then xs i (i + 1) on.end c.loop-i.state c.in-Some.next c.read_rest.new.state old mid new (omega arith) b.0 (omega (arith, fits, c.loop-i-test.true)) byte on.ensures.read);
    }

pub returns-clause-exit : goal.returns-clause-exit
returns-clause-exit g c =
    let v = c.loop-i.invariant in
    let high = v.high in
    let same : c.loop-i.i ≡ c.args.to = omega (arith, high, c.loop-i-test.false) in
    sym (subst (λ (k : ℕ). (lex c.args.state c.args.from (slice_range c.args.text.now c.args.from k)).exit ≡ reading.state c.loop-i.state) same v.read.exit)
