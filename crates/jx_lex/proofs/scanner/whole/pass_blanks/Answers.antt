use Rattle.std.proofs.Common.{arith}
use Rattle.jx_lex.proofs.Whole.{passes-none, passes-space, passes-kept}
use Rattle.jx_lex.proofs.scanner.whole.pass_blanks.Goals as goal

pub returns-then-text-from-gt32-clause-passes : goal.returns-then-text-from-gt32-clause-passes
returns-then-text-from-gt32-clause-passes c = let b = c.requires in passes-none c.args.text.now c.args.from (omega (arith, b))

pub returns-then-text-from-gt32-2-clause-passes : goal.returns-then-text-from-gt32-2-clause-passes
returns-then-text-from-gt32-2-clause-passes c = let b = c.requires in passes-space c.args.text.now c.args.from (omega (arith, b)) c.if-text-from-eq32.true

pub returns-clause-passes : goal.returns-clause-passes
returns-clause-passes c =
    let b = c.requires in
    let e = c.blank_end.ensures.bounds in
    passes-kept c.args.text.now c.args.from c.blank_end.result e.0 (omega (arith, b, e)) c.blank_end.ensures.kept
