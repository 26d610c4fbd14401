use Rattle.std.proofs.Common.{◌∙◌, ap, sym}
use Rattle.std.proofs.lemmas.Bool.{eqb-false, eqb-true}
use Rattle.jx_file_index.specs.Digest.{xxh64}
use Rattle.jx_file_query.proofs.Chunkings.{digest_kept, kept_some}
use Rattle.jx_file_query.proofs.chunks.is_kept.Goals as goal

pub returns-then-bytes-saturating_sub-clause-same : goal.returns-then-bytes-saturating_sub-clause-same
returns-then-bytes-saturating_sub-clause-same c = λ t settings chunk text h is.
    sym c.digest_of.ensures ∙ eqb-true c.digest_of.result c.in-Some.entry.digest t
    ∙ digest_kept settings chunk text c.args.index.now h c.args.at c.args.span c.in-Some.entry is c.in-Some.ensures

pub returns-then-bytes-saturating_sub-clause-other : goal.returns-then-bytes-saturating_sub-clause-other
returns-then-bytes-saturating_sub-clause-other c = λ f settings chunk text h is same.
    eqb-false c.digest_of.result c.in-Some.entry.digest f
    (c.digest_of.ensures ∙ ap xxh64 same
    ∙ sym (digest_kept settings chunk text c.args.index.now h c.args.at c.args.span c.in-Some.entry is c.in-Some.ensures))

pub returns-in-None-clause-other : goal.returns-in-None-clause-other
returns-in-None-clause-other c = λ f settings chunk text h is same.
    kept_some settings chunk text c.args.index.now h c.args.at c.args.span is c.in-None.ensures
