use Rattle.std.proofs.Common.{◌+◌, ◌*◌, ℕ, ap, arith}
use Rattle.std.specs.Prelude.{Some}
use Rattle.jx_file_index.proofs.Counts.{entries_had}
use Rattle.jx_file_index.proofs.Decodings.{as_many}
use Rattle.jx_file_index.proofs.lengths.length_by.Goals as goal
use Rattle.jx_file_index.proofs.lengths.length_by.Goals.{then-size-eq0-via-then-size-eq0, then-size-eq0-via-else-size-eq0+then-chunk-lt64}

pub returns-then-size-eq0-clause-known : goal.returns-then-size-eq0-clause-known
returns-then-size-eq0-clause-known c = λ i rest savable is.
    let s = c.sizes_of-size.ensures i rest savable is in
    let size = s.0 in
    let chunk = s.1 in
    let some = savable.has.some in
    let least = savable.chunk.0 in
    absurd (elim c.then-size-eq0.branch [
      | then-size-eq0-via-then-size-eq0 w ↦ let t = w.if-size-eq0.true in omega (arith, t, size, some)
      | then-size-eq0-via-else-size-eq0+then-chunk-lt64 w ↦ let t = w.if-chunk-lt64.true in omega (arith, t, chunk, least)
    ])

pub returns-clause-known : goal.returns-clause-known
returns-clause-known c = λ i rest savable is.
    let s = c.sizes_of-size.ensures i rest savable is in
    ap (λ (k : ℕ). Some (64 + 24 * k))
    (as_many i (entries_had i savable.has) c.sizes_of-size.result.0 c.sizes_of-size.result.1 c.parts.result c.kept_of.result s.0 s.1 c.parts.ensures.counted c.kept_of.ensures.kept)
