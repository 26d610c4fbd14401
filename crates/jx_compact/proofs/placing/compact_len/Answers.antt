use Rattle.std.proofs.Common.{arith, ℕ, ◌+◌, ◌<◌, List, length, drop, ap}
use Rattle.jx_compact.specs.declared.place.Place.{Place}
use Rattle.jx_compact.specs.Compact.{compact_from}
use Rattle.jx_compact.proofs.Compacts.{next_len, none_more}
use Rattle.jx_compact.proofs.placing.compact_len.Goals as goal

pub loop-byte-preserved : goal.loop-byte-preserved
loop-byte-preserved c =
    let xs : List ℕ = c.args.bytes.now in
    let i : ℕ = c.loop-byte.byte-index in
    let within : i < length xs = omega arith in
    let step = next_len c.loop-byte.place xs i within in
    let moved = ap (λ (p : Place). length (compact_from p (drop (i + 1) xs))) c.next-place.ensures in
    record {
      len = omega (arith, step, moved, c.kept_len-len.ensures.value, c.loop-byte.invariant.len);
      low = omega (arith, c.kept_len-len.ensures.small, c.loop-byte.invariant.low);
    }

pub returns : goal.returns
returns c = omega (arith, ap (λ (x : List ℕ). length x) (none_more c.loop-byte.place c.args.bytes.now c.loop-byte.byte-index (omega arith)), c.loop-byte.invariant.len)
