use Rattle.std.proofs.Common.{ℕ, length, subst, sym}
use Rattle.std.proofs.lemmas.Result.{err_from_is_err_and}
use Rattle.std.specs.Prelude.{slice_range}
use Rattle.jx_file_index.specs.Chunks.{IsCount}
use Rattle.jx_file_index.specs.Saved.{AreKept}
use Rattle.jx_file_index.proofs.Counts.{entries_had}
use Rattle.jx_file_index.proofs.Decodings.{as_long, as_many, rest_is}
use Rattle.jx_file_index.proofs.index_decoding.index_behind.Goals as goal

pub returns-clause-has : goal.returns-clause-has
returns-clause-has c = record {
  some = c.requires.some;
  count = c.parts-count.result;
  counted = subst (λ (x : ℕ). IsCount x c.args.head.size c.parts-count.result) c.bytes.ensures.value c.parts-count.ensures.counted;
  kept = subst (λ (k : ℕ). AreKept c.parts-count.result k) (sym c.in_ok-entries.ensures.count) c.kept_of-kept.ensures.kept;
}

pub returns-clause-reads : goal.returns-clause-reads
returns-clause-reads c = λ i savable head is. record {
  settings = head.settings;
  chunk = head.chunk;
  size = head.size;
  entries = c.in_ok-entries.ensures.reads i.entries.items savable.entries (rest_is i c.args.bytes.now c.requires.long is);
  top = head.top;
}

pub returns-in_err-entries-clause-only : goal.returns-in_err-entries-clause-only
returns-in_err-entries-clause-only c =
    let p = err_from_is_err_and c.from_residual.result c.from_residual.ensures.1 in
    rw (p.1, p.2)
    (λ i savable head is.
    let counted = subst (λ (x : ℕ). IsCount x c.args.head.size c.parts-count.result) c.bytes.ensures.value c.parts-count.ensures.counted in
    let many = as_many i (entries_had i savable.has) c.args.head.size c.args.head.chunk c.parts-count.result c.kept_of-kept.result head.size head.chunk counted c.kept_of-kept.ensures.kept in
    c.in_err-entries.ensures.only (as_long i (slice_range c.args.bytes.now 64 (length c.args.bytes.now)) c.kept_of-kept.result many (rest_is i c.args.bytes.now c.requires.long is)))

pub returns-in_err-entries-clause-said : goal.returns-in_err-entries-clause-said
returns-in_err-entries-clause-said c =
    let p = err_from_is_err_and c.from_residual.result c.from_residual.ensures.1 in
    rw (p.1, p.2) (λ tagged. c.in_err-entries.ensures.said c.args.bytes.now tagged)
