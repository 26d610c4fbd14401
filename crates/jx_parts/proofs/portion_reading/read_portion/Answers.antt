use Rattle.std.proofs.Common.{◌++◌, ℕ, List, take, ap, subst}
use Rattle.std.proofs.KnownBytes.{Consumes-trans}
use Rattle.jx_portion.specs.Portion.{IsPortion}
use Rattle.jx_parts.proofs.portion_reading.read_portion.Goals as goal

pub returns-then-filled-batch-clause-ok : goal.returns-then-filled-batch-clause-ok
returns-then-filled-batch-clause-ok g c =
    let old = g.S.Source.remaining c.args.reader.now in
    let mid = g.S.Source.remaining c.loop-portion.reader in
    let new = g.S.Source.remaining c.fill_buffer.new.reader in
    let so_far = c.loop-portion.invariant.3 in
    let more = take c.in_ok-filled.filled c.fill_buffer.new.buffer.items in
    let same = ap (take c.in_ok-filled.filled) c.deref.ensures.value in
    record {
      text = so_far.0 ++ more;
      read = (Consumes-trans old mid new so_far.0 more so_far.1.0 c.in_ok-filled.ensures.ok, c.in_ok-filled.ensures.end c.if-filled-batch.true);
      of = subst (λ (l : List ℕ). IsPortion (so_far.0 ++ l) c.args.from c.args.depth c.in_ok-portion-2.portion) same (c.in_ok-portion-2.ensures.of so_far.0 c.args.from c.args.depth so_far.1.1);
    }

pub loop-portion-preserved : goal.loop-portion-preserved
loop-portion-preserved g c =
    let old = g.S.Source.remaining c.args.reader.now in
    let mid = g.S.Source.remaining c.loop-portion.reader in
    let new = g.S.Source.remaining c.fill_buffer.new.reader in
    let so_far = c.loop-portion.invariant.3 in
    let more = take c.in_ok-filled.filled c.fill_buffer.new.buffer.items in
    let same = ap (take c.in_ok-filled.filled) c.deref.ensures.value in
    let of = subst (λ (l : List ℕ). IsPortion (so_far.0 ++ l) c.args.from c.args.depth c.in_ok-portion-2.portion) same (c.in_ok-portion-2.ensures.of so_far.0 c.args.from c.args.depth so_far.1.1) in
    (c.in_ok-filled.ensures.within, c.in_ok-filled.ensures.going, c.loop-portion.invariant.2, (so_far.0 ++ more, (Consumes-trans old mid new so_far.0 more so_far.1.0 c.in_ok-filled.ensures.ok, of)))
