use Rattle.std.specs.Prelude.{slice_range}
use Rattle.std.proofs.Common.{◌≤◌, arith, length, subst, sym}
use Rattle.jx_lex.specs.declared.alphabet.state.LexState.{LexState}
use Rattle.jx_lex.specs.declared.alphabet.state.LexState.TheVariants as state
use Rattle.jx_lex.specs.Lex.{lex}
use Rattle.jx_lex.specs.Seen.{GoesTo}
use Rattle.jx_lex.proofs.Keeping.{goes-led, goes-then}
use Rattle.jx_lex.proofs.Running.{AllKeep-leads}
use Rattle.jx_lex.proofs.scanner.read_rest.Goals as goal

pub returns-then-byte-ge91-clause-read : goal.returns-then-byte-ge91-clause-read
returns-then-byte-ge91-clause-read g c =
    let xs = c.args.text.now in
    let from = c.args.from in
    let e = c.gap_end-end.result in
    let seen = g.K.TokenSink.has_seen c.args.sink.now in
    subst (λ (s : LexState). GoesTo seen seen (lex s from (slice_range xs from e)) s) (sym c.in-Gap.is)
    (goes-led seen state.Gap state.Gap from (slice_range xs from e) (AllKeep-leads state.Gap (slice_range xs from e) c.gap_end-end.ensures.kept))

pub returns-in_ok-behind-in-Gap-clause-read : goal.returns-in_ok-behind-in-Gap-clause-read
returns-in_ok-behind-in-Gap-clause-read g c =
    let xs = c.args.text.now in
    let from = c.args.from in
    let e = c.gap_end-end.result in
    let on = c.in_ok-behind-in-Gap in
    let r = on.behind in
    let old = g.K.TokenSink.has_seen c.args.sink.now in
    let new = g.K.TokenSink.has_seen c.pass.new.self in
    let b = c.requires.bounds in
    let k = c.gap_end-end.ensures.bounds in
    let fits : e ≤ length xs = omega (arith, b, k) in
    subst (λ (s : LexState). GoesTo old new (lex s from (slice_range xs from r)) s) (sym c.in-Gap.is)
    (goes-then xs from e r state.Gap state.Gap state.Gap old old new k.0 on.ensures.bounds.0 fits
    (goes-led old state.Gap state.Gap from (slice_range xs from e) (AllKeep-leads state.Gap (slice_range xs from e) c.gap_end-end.ensures.kept)) on.ensures.read)

pub returns-in_ok-behind-in-Str-clause-read : goal.returns-in_ok-behind-in-Str-clause-read
returns-in_ok-behind-in-Str-clause-read g c =
    let xs = c.args.text.now in
    let from = c.args.from in
    let on = c.in_ok-end-in-Str in
    let then = c.in_ok-behind-in-Str in
    let r = then.behind in
    let t = c.string_rest.new.last in
    let old = g.K.TokenSink.has_seen c.args.sink.now in
    let mid = g.K.TokenSink.has_seen c.string_rest.new.sink in
    let new = g.K.TokenSink.has_seen c.pass_on.new.sink in
    let b = c.requires.bounds in
    let k = on.ensures.bounds in
    let fits : on.end ≤ length xs = omega (arith, b, k) in
    subst (λ (s : LexState). GoesTo old new (lex s from (slice_range xs from r)) t) (sym c.in-Str.is)
    (goes-then xs from on.end r state.Str t t old mid new k.0 then.ensures.bounds.0 fits on.ensures.read then.ensures.read)

pub returns-in_default-clause-read : goal.returns-in_default-clause-read
returns-in_default-clause-read g c =
    goes-led (g.K.TokenSink.has_seen c.args.sink.now) c.args.state.now c.args.state.now c.args.from (slice_range c.args.text.now c.args.from c.more_digits.result) c.more_digits.ensures.led
