use Rattle.std.proofs.Common.{◌≡◌, ℕ, ◌/◌, Some, subst, sym, ◌∙◌}
use Rattle.std.proofs.lemmas.Option.{same_Some}
use Rattle.jx_summary.specs.declared.span.Span.{Span}
use Rattle.jx_file_query.specs.Chunks.{chunk_at}
use Rattle.jx_c.specs.Opened.{IsChunk, IsNoChunk, chunk_with}
use Rattle.jx_c.proofs.saving.opened.OpenedIndex.check.Goals as goal

pub returns-then-is_kept-clause-kept : goal.returns-then-is_kept-clause-kept
returns-then-is_kept-clause-kept c = λ span e ok.
    let index = c.args.self.now.saved.index in
    let found : chunk_with index c.args.at ≡ Some c.in-Some.span = sym c.chunk_with.ensures ∙ c.in-Some.is in
    let same : c.in-Some.span ≡ span = same_Some _ _ (sym found ∙ e) in
    let there = subst (λ (n : ℕ). chunk_at index (c.args.at / n) ≡ Some c.in-Some.span) (sym c.bytes.ensures.value) found in
    subst (λ (s : Span). IsChunk index s c.args.bytes.now) same (λ settings chunk text indexed apart. apart (c.is_kept.ensures.same c.if-is_kept.true settings chunk text indexed there))

pub returns-else-is_kept-clause-changed : goal.returns-else-is_kept-clause-changed
returns-else-is_kept-clause-changed c = λ span e is.
    let index = c.args.self.now.saved.index in
    let found : chunk_with index c.args.at ≡ Some c.in-Some.span = sym c.chunk_with.ensures ∙ c.in-Some.is in
    let same : c.in-Some.span ≡ span = same_Some _ _ (sym found ∙ e) in
    let there = subst (λ (n : ℕ). chunk_at index (c.args.at / n) ≡ Some c.in-Some.span) (sym c.bytes.ensures.value) found in
    subst (λ (s : Span). IsNoChunk index s c.args.bytes.now) same (λ settings chunk text indexed. c.is_kept.ensures.other c.if-is_kept.false settings chunk text indexed there)
