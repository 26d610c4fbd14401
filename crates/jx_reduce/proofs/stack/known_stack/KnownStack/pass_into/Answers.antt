use Rattle.std.proofs.Common.{◌≡◌, Option, Some, None, false, is_some, arith, refl, subst, sym, ◌∙◌}
use Rattle.std.specs.Prelude.{slice_range}
use Rattle.jx_lex.specs.declared.alphabet.state.LexState.TheVariants.{Gap}
use Rattle.jx_lex.specs.Lex.{lex}
use Rattle.jx_reduce.specs.inside.KnownInside.{AtRest}
use Rattle.jx_reduce.specs.declared.stack.known_stack.Fault.{Fault}
use Rattle.jx_reduce.proofs.KnownMoves.{has_read-then}
use Rattle.jx_reduce.proofs.Passed.{reads-none, reads-within}
use Rattle.jx_reduce.proofs.Sees.{sees-none}
use Rattle.jx_reduce.proofs.stack.known_stack.KnownStack.pass_into.Goals as goal

no_fault : (o : Option Fault) → is_some o ≡ false → o ≡ None
no_fault None e = refl
no_fault (Some f) e = absurd cc

pub returns-then-is_some-clause-exit : goal.returns-then-is_some-clause-exit
returns-then-is_some-clause-exit g c =
    let b = c.requires in
    (reads-none c.args.self.now.depth c.args.text.now c.args.from c.args.self.now.reading (omega (arith, b))).exit

pub returns-then-is_some-clause-reads : goal.returns-then-is_some-clause-reads
returns-then-is_some-clause-reads g c =
    let b = c.requires in
    (reads-none c.args.self.now.depth c.args.text.now c.args.from c.args.self.now.reading (omega (arith, b))).read

pub returns-then-is_some-clause-marks : goal.returns-then-is_some-clause-marks
returns-then-is_some-clause-marks g c = λ before h.
    let b = c.requires in
    let k = c.args.self.now in
    has_read-then k k before ((lex Gap c.args.from (slice_range c.args.text.now c.args.from c.args.from)).marks) refl (reads-none k.depth c.args.text.now c.args.from k.reading (omega (arith, b))).read h

pub invariant_of-self : goal.invariant_of-self
invariant_of-self g c =
    let r = c.stretches-at in
    let i = c.self.inside in
    let none : i.fault ≡ None = no_fault i.fault (sym c.is_some.ensures ∙ c.if-is_some.false) in
    let same = c.containers-most.ensures.value in
    let short = c.self.invariant.within in
    let within = reads-within c.containers-most.result c.args.text.now c.args.from r.result.0 i.expect r.result.1 i.open r.new.holders r.ensures.reads (omega (arith, same, short)) in
    record { within = omega (arith, same, within); rest = subst (λ (f : Option Fault). AtRest f r.result.1 r.new.holders) (sym none) tt }

pub returns-then-is_some-clause-seen : goal.returns-then-is_some-clause-seen
returns-then-is_some-clause-seen g c = λ _. sees-none (g.K.TokenSink.has_seen c.args.listener.now.sink) c.args.text.now c.args.from

pub returns-clause-seen : goal.returns-clause-seen
returns-clause-seen g c = λ ok marks ends h. c.stretches-at.ensures.seen marks ends (λ _. h) ok
