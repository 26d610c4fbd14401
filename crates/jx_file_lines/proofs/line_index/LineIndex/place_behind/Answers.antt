use Rattle.std.proofs.Common.{◌≡◌, ◌+◌, ◌-◌, ◌<◌, ◌≤◌, ◌∙◌, ap, arith, length, subst, suc, sym, ℕ, List}
use Rattle.jx_file_lines.specs.declared.line_index.LineEntry.{LineEntry}
use Rattle.jx_file_lines.specs.Lines.{line_start}
use Rattle.jx_file_lines.specs.Places.{BeginsIn}
use Rattle.jx_file_lines.specs.TextLines.{feeds_before}
use Rattle.jx_file_lines.proofs.Starts.{start_none}
use Rattle.jx_file_lines.proofs.Told.{begins_in, ends_before}
use Rattle.jx_file_lines.proofs.line_index.LineIndex.place_behind.Goals as goal

pub returns-then-feeds-eq0-clause-begins : goal.returns-then-feeds-eq0-clause-begins
returns-then-feeds-eq0-clause-begins c = λ chunk text is. ap (λ (k : ℕ). line_start k text) c.if-feeds-eq0.true ∙ start_none text

pub returns-then-chunk-len-clause-begins : goal.returns-then-chunk-len-clause-begins
returns-then-chunk-len-clause-begins c = λ chunk text is.
    let es = c.args.self.now.entries.items in
    let l = c.len.ensures in
    let ok = c.args.self.now.entries.ok.0 in
    let test = c.if-chunk-len.true in
    let n : c.chunk_with-chunk.result ≡ length es = omega (arith, l, ok, test) in
    ends_before chunk text c.args.self.now is c.args.feeds
    (subst (λ (k : ℕ). feeds_before es k < c.args.feeds) n (subst (λ (xs : List LineEntry). feeds_before xs c.chunk_with-chunk.result < c.args.feeds) c.deref.ensures.value c.chunk_with-chunk.ensures.before))

pub returns-clause-begins : goal.returns-clause-begins
returns-clause-begins c = λ chunk text is.
    let es = c.args.self.now.entries.items in
    let m = c.chunk_with-chunk.result in
    let l = c.len.ensures in
    let ok = c.args.self.now.entries.ok.0 in
    let test = c.if-chunk-len.false in
    let d : length c.deref.result.now ≡ length es = ap length c.deref.ensures.value in
    let w = c.chunk_with-chunk.ensures.within in
    let low : m < length es = omega (arith, l, ok, test, d, w) in
    let before = subst (λ (xs : List LineEntry). feeds_before xs m < c.args.feeds) c.deref.ensures.value c.chunk_with-chunk.ensures.before in
    let has = subst (λ (xs : List LineEntry). c.args.feeds ≤ feeds_before xs (m + 1)) c.deref.ensures.value (c.chunk_with-chunk.ensures.has (omega (arith, low, d))) in
    let told : c.feeds_before.result ≡ feeds_before es m = c.feeds_before.ensures ∙ ap (λ (xs : List LineEntry). feeds_before xs m) c.deref-2.ensures.value in
    subst (λ (k : ℕ). BeginsIn chunk text c.args.feeds m (c.args.feeds - k)) (sym told)
    (begins_in chunk text c.args.self.now is c.args.feeds m low before (subst (λ (k : ℕ). c.args.feeds ≤ feeds_before es k) (let e : m + 1 ≡ suc m = omega arith in e) has))
