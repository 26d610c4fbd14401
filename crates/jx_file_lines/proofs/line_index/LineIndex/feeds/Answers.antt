use Rattle.std.proofs.Common.{◌≡◌, ◌∙◌, ap, arith, length, ℕ, List}
use Rattle.jx_file_lines.specs.declared.line_index.LineEntry.{LineEntry}
use Rattle.jx_file_lines.specs.TextLines.{feeds_before}
use Rattle.jx_file_lines.proofs.Told.{told_all}
use Rattle.jx_file_lines.proofs.line_index.LineIndex.feeds.Goals as goal

pub returns : goal.returns
returns c = λ chunk text is.
    let es = c.args.self.now.entries.items in
    let l = c.len.ensures in
    let ok = c.args.self.now.entries.ok.0 in
    let n : c.len.result ≡ length es = omega (arith, l, ok) in
    c.feeds_before.ensures
    ∙ ap (λ (xs : List LineEntry). feeds_before xs c.len.result) c.deref.ensures.value
    ∙ ap (λ (k : ℕ). feeds_before es k) n
    ∙ told_all chunk text c.args.self.now is
