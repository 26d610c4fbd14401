use Rattle.std.proofs.Common.{◌≡◌, ◌<◌, ◌∙◌, ap, arith, length, sym}
use Rattle.std.proofs.lemmas.Bool.Decides.{nat_tests}
use Rattle.jx_file_index.specs.Digest.{xxh64}
use Rattle.jx_file_lines.proofs.Told.{digest_told}
use Rattle.jx_file_lines.proofs.line_index.LineIndex.is_kept.Goals as goal

pub returns-clause-same : goal.returns-clause-same
returns-clause-same c = λ test chunk text is.
    let l = c.len.ensures in
    let ok = c.args.self.now.entries.ok.0 in
    let in_range = c.if-place-len.false in
    let low : c.args.place < length c.args.self.now.entries.items = omega (arith, l, ok, in_range) in
    let told = digest_told chunk text c.args.self.now is c.args.place c.index.result.now low c.index.ensures in
    let equal : c.digest_of.result ≡ c.index.result.now.digest = grind (arith, nat_tests, test) in
    sym c.digest_of.ensures ∙ equal ∙ told

pub returns-clause-other : goal.returns-clause-other
returns-clause-other c = λ test chunk text is low same.
    let told = digest_told chunk text c.args.self.now is c.args.place c.index.result.now low c.index.ensures in
    let equal : c.digest_of.result ≡ c.index.result.now.digest = c.digest_of.ensures ∙ ap xxh64 same ∙ sym told in
    grind (arith, nat_tests, test, equal)
