use Rattle.std.proofs.Common.{◌≡◌, ◌∙◌, length, subst, sym, ℕ}
use Rattle.std.proofs.lemmas.Result.{err_from_is_err_and}
use Rattle.std.specs.Int.{w64, to_le_bytes}
use Rattle.jx_file_index.specs.Chunks.{IsChunkSize, IsCount}
use Rattle.jx_file_index.specs.Digest.{xxh64}
use Rattle.jx_file_index.proofs.Decodings.{count_unique}
use Rattle.jx_file_lines.specs.Spelling.{spelt_front}
use Rattle.jx_file_lines.proofs.decoding.index_in.Goals as goal

pub returns-in-None-clause-only : goal.returns-in-None-clause-only
returns-in-None-clause-only c = λ i savable is.
    let sizes = c.sizes_of-size.ensures i (to_le_bytes w64 (xxh64 (spelt_front i))) savable is in
    let t = c.in-None.ensures.valid.1 (subst IsChunkSize (sym sizes.1) savable.chunk) in
    cc

pub returns-in_ok-entries-in-Some-clause-reads : goal.returns-in_ok-entries-in-Some-clause-reads
returns-in_ok-entries-in-Some-clause-reads c = λ i savable is.
    let sizes = c.sizes_of-size.ensures i (to_le_bytes w64 (xxh64 (spelt_front i))) savable is in
    let chunk : c.in-Some.chunk ≡ i.chunk = c.in-Some.ensures.value ∙ sizes.1 in
    let counted : IsCount i.chunk i.size c.chunks_of.result =
    subst (λ (n : ℕ). IsCount i.chunk n c.chunks_of.result) sizes.0 (subst (λ (n : ℕ). IsCount n c.sizes_of-size.result.0 c.chunks_of.result) (c.bytes.ensures.value ∙ chunk) c.chunks_of.ensures) in
    let many : c.chunks_of.result ≡ length i.entries.items = count_unique i.chunk i.size c.chunks_of.result (length i.entries.items) counted savable.counted in
    record { chunk = chunk; size = sizes.0; entries = c.in_ok-entries-in-Some.ensures.reads i savable many is }

pub returns-in_err-entries-in-Some-clause-only : goal.returns-in_err-entries-in-Some-clause-only
returns-in_err-entries-in-Some-clause-only c =
    let p = err_from_is_err_and c.from_residual.result c.from_residual.ensures.1 in
    rw (p.1, p.2)
    (λ i savable is.
    let sizes = c.sizes_of-size.ensures i (to_le_bytes w64 (xxh64 (spelt_front i))) savable is in
    let chunk : c.in-Some.chunk ≡ i.chunk = c.in-Some.ensures.value ∙ sizes.1 in
    let counted : IsCount i.chunk i.size c.chunks_of.result =
    subst (λ (n : ℕ). IsCount i.chunk n c.chunks_of.result) sizes.0 (subst (λ (n : ℕ). IsCount n c.sizes_of-size.result.0 c.chunks_of.result) (c.bytes.ensures.value ∙ chunk) c.chunks_of.ensures) in
    let many : c.chunks_of.result ≡ length i.entries.items = count_unique i.chunk i.size c.chunks_of.result (length i.entries.items) counted savable.counted in
    c.in_err-entries-in-Some.ensures.only i savable many is)
