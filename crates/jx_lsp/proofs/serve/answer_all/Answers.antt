use Rattle.std.proofs.Common.{◌≡◌, List, ℕ, ◌-◌, length, take, drop, ap, ◌∙◌, sym, subst, arith}
use Rattle.std.proofs.lemmas.Bool.{eqb-true}
use Rattle.std.proofs.lemmas.List.{length-drop, take_all, nil_from_length}
use Rattle.std.specs.Prelude.{is_some, true, false}
use Rattle.jx_wire.specs.Frames.{ended_in, fault_of}
use Rattle.jx_lsp.specs.inside.Parts.{Goes}
use Rattle.jx_lsp.proofs.Sessions.{ends_broken, ends_by, ends_whole, goes_nowhere, goes_on, no_fault, not_left}
use Rattle.jx_lsp.proofs.serve.answer_all.Goals as goal

pub loop-rest-init : goal.loop-rest-init
loop-rest-init g c = (c.requires, goes_nowhere c.args.frames.now c.args.server.now (g.W.Write.contents c.args.writer.now) c.args.bytes.now)

pub returns-then-is_some : goal.returns-then-is_some
returns-then-is_some g c =
    let contents = g.W.Write.contents in
    let a = contents c.args.writer.now in
    let b = contents c.answer.new.writer in
    let rest = drop c.in_ok-taken.field-0.taken c.loop-rest.rest.now in
    let goes = goes_on c.args.frames.now c.loop-rest.frames c.feed.new.self c.args.server.now c.loop-rest.server c.answer.new.server a (contents c.loop-rest.writer) b c.args.bytes.now
    c.loop-rest.rest.now c.in_ok-taken.field-0.taken (ended_in c.in_ok-taken.field-0.body) c.loop-rest.invariant.1 c.in_ok-taken.ensures.read c.in_ok-taken.ensures.body c.in_ok-answer.ensures in
    ends_by c.args.frames.now c.feed.new.self c.args.server.now c.answer.new.server a b c.args.bytes.now rest c.end_of-end.result goes c.end_of-end.ensures (sym c.is_some.ensures ∙ c.if-is_some.true)

pub returns-then-is_some-2 : goal.returns-then-is_some-2
returns-then-is_some-2 g c =
    let contents = g.W.Write.contents in
    let a = contents c.args.writer.now in
    let b = contents c.answer.new.writer in
    let to = c.feed.new.self in
    let last = c.answer.new.server in
    let rest = drop c.in_ok-taken.field-0.taken c.loop-rest.rest.now in
    let goes = goes_on c.args.frames.now c.loop-rest.frames to c.args.server.now c.loop-rest.server last a (contents c.loop-rest.writer) b c.args.bytes.now
    c.loop-rest.rest.now c.in_ok-taken.field-0.taken (ended_in c.in_ok-taken.field-0.body) c.loop-rest.invariant.1 c.in_ok-taken.ensures.read c.in_ok-taken.ensures.body c.in_ok-answer.ensures in
    let stays = not_left last.phase c.end_of-end.result c.end_of-end.ensures (sym c.is_some.ensures ∙ c.if-is_some.false) in
    let some : is_some (fault_of to) ≡ true = sym (ap is_some c.fault.ensures) ∙ sym c.is_some-in-loop-rest.ensures ∙ c.if-is_some-2.true in
    ends_broken c.args.frames.now to c.args.server.now last a b (contents c.tell.new.writer) c.args.bytes.now rest c.broken_stream.result goes stays some c.broken_stream.ensures c.in_ok-tell.ensures

pub loop-rest-preserved : goal.loop-rest-preserved
loop-rest-preserved g c =
    let contents = g.W.Write.contents in
    let a = contents c.args.writer.now in
    let b = contents c.answer.new.writer in
    let to = c.feed.new.self in
    let last = c.answer.new.server in
    let taken = c.in_ok-taken.field-0.taken in
    let before : List ℕ = c.loop-rest.rest.now in
    let goes = goes_on c.args.frames.now c.loop-rest.frames to c.args.server.now c.loop-rest.server last a (contents c.loop-rest.writer) b c.args.bytes.now
    before taken (ended_in c.in_ok-taken.field-0.body) c.loop-rest.invariant.1 c.in_ok-taken.ensures.read c.in_ok-taken.ensures.body c.in_ok-answer.ensures in
    let stays = not_left last.phase c.end_of-end.result c.end_of-end.ensures (sym c.is_some.ensures ∙ c.if-is_some.false) in
    let none : is_some (fault_of to) ≡ false = sym (ap is_some c.fault.ensures) ∙ sym c.is_some-in-loop-rest.ensures ∙ c.if-is_some-2.false in
    let whole : take (length before - taken) (drop taken before) ≡ drop taken before = take_all (length before - taken) (drop taken before) (omega (arith, length-drop taken before)) in
    (record { readable = no_fault (fault_of to) none; stays = stays }, subst (Goes c.args.frames.now c.args.server.now a c.args.bytes.now to last b) (sym whole) goes)

pub returns : goal.returns
returns g c =
    let contents = g.W.Write.contents in
    ends_whole c.args.frames.now c.loop-rest.frames c.args.server.now c.loop-rest.server (contents c.args.writer.now) (contents c.loop-rest.writer) c.args.bytes.now c.loop-rest.rest.now
    c.loop-rest.invariant.1 (nil_from_length c.loop-rest.rest.now (eqb-true _ _ (sym c.is_empty.ensures ∙ c.loop-rest-test.false))) c.loop-rest.invariant.0
