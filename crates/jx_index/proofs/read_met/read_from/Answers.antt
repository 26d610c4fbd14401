use Rattle.std.proofs.Common.{◌≡◌, ◌+◌, suc, Err, refl, sym, ap, ◌∙◌, arith}
use Rattle.jx_index.specs.declared.find_fault.FindFault.{FindFault}
use Rattle.jx_index.proofs.ReadMet.{read_end, reads_on, reads_off, reads_again}
use Rattle.jx_index.proofs.read_met.read_from.Goals as goal

pub loop-level-init : goal.loop-level-init
loop-level-init c = refl

pub returns-in-Never : goal.returns-in-Never
returns-in-Never c =
    let i = c.loop-level.level in
    let more : i + 1 ≡ suc i = omega arith in
    ap (λ (f : FindFault). Err f) c.missing.ensures
    ∙ reads_off c.args.met.now c.args.wanted.now i (i + 1) c.loop-level.here c.met_at.result c.loop-level-test.true more c.met_at.ensures c.token_at-token.result c.token_at-token.ensures c.in-Never.is
    ∙ c.loop-level.invariant

pub returns-in-Again : goal.returns-in-Again
returns-in-Again c =
    let i = c.loop-level.level in
    let more : i + 1 ≡ suc i = omega arith in
    reads_again c.args.met.now c.args.wanted.now i (i + 1) c.loop-level.here c.met_at.result c.loop-level-test.true more c.met_at.ensures c.in-Again.is
    ∙ c.loop-level.invariant

pub loop-level-preserved : goal.loop-level-preserved
loop-level-preserved c =
    let i = c.loop-level.level in
    let more : i + 1 ≡ suc i = omega arith in
    reads_on c.args.met.now c.args.wanted.now i (i + 1) c.loop-level.here c.met_at.result c.loop-level-test.true more c.met_at.ensures c.in-Once.next c.in-Once.is
    ∙ c.loop-level.invariant

pub returns : goal.returns
returns c = sym (read_end c.args.met.now c.args.wanted.now c.loop-level.level c.loop-level.here c.loop-level-test.false) ∙ c.loop-level.invariant
