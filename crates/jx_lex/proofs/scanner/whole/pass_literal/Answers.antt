use Rattle.std.proofs.Common.{◌+◌, ◌<◌, ◌≤◌, ap, arith, length, subst, sym}
use Rattle.std.specs.Prelude.{slice_range}
use Rattle.jx_lex.specs.declared.alphabet.mark.MarkKind.TheVariants as mark
use Rattle.jx_lex.specs.declared.alphabet.state.LexState.{LexState}
use Rattle.jx_lex.specs.declared.alphabet.state.LexState.TheVariants as state
use Rattle.jx_lex.specs.Seen.{Shuts}
use Rattle.jx_lex.specs.Whole.{is_true, is_false, is_null, literal_of}
use Rattle.jx_lex.proofs.Whole.{passes-literal, begins-true, begins-false, begins-null}
use Rattle.jx_lex.proofs.scanner.whole.pass_literal.Goals as goal
use Rattle.jx_lex.proofs.scanner.whole.pass_literal.Goals.{in-116, in-102, in-110}

pub returns-else-end-from-clause-passes : goal.returns-else-end-from-clause-passes
returns-else-end-from-clause-passes c = λ more.
    let xs = c.args.text.now in
    let a = c.args.from in
    let e = c.literal_end-end.result in
    let b = c.requires in
    let k = c.literal_end-end.ensures.bounds in
    let no = c.if-end-from.false in
    let further : a + 1 < e = omega (arith, k, no) in
    let shut = c.literal_end-end.ensures.shut further in
    let fits : e ≤ length xs = omega (arith, b, k) in
    let here : a < length xs = omega (arith, b) in
    elim c.match-text-from.branch [
      | in-116 w ↦ record { kind = mark.True; literal = is_true; first = sym (ap literal_of w.in-116.is); passes = passes-literal xs a e mark.True state.T k.0 fits here (begins-true _ w.in-116.is) (subst (λ (s : LexState). Shuts s (slice_range xs (a + 1) e)) w.begun-is shut) }
      | in-102 w ↦ record { kind = mark.False; literal = is_false; first = sym (ap literal_of w.in-102.is); passes = passes-literal xs a e mark.False state.F k.0 fits here (begins-false _ w.in-102.is) (subst (λ (s : LexState). Shuts s (slice_range xs (a + 1) e)) w.begun-is shut) }
      | in-110 w ↦ record { kind = mark.Null; literal = is_null; first = sym (ap literal_of w.in-110.is); passes = passes-literal xs a e mark.Null state.N k.0 fits here (begins-null _ w.in-110.is) (subst (λ (s : LexState). Shuts s (slice_range xs (a + 1) e)) w.begun-is shut) }
    ]
