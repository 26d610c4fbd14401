use Rattle.std.proofs.Common.{◌≡◌, ℕ, List, length, subst, sym, ap, ◌∙◌, arith}
use Rattle.std.proofs.lemmas.Result.{on_ok_weaker}
use Rattle.jx_summary.specs.declared.span.Span.{Span}
use Rattle.jx_words.specs.declared.pointer_answer.PointerAnswer.{PointerAnswer}
use Rattle.jx_values.specs.Values.{told_line, value_line}
use Rattle.jx_cmd_index.specs.inside.Alone.{span_of}
use Rattle.jx_cmd_index.specs.inside.Texts.{AreBytesIn, OfEachText}
use Rattle.jx_cmd_index.proofs.ValueLineSteps.{adds, began, line_is, told_is, wrote}
use Rattle.jx_cmd_index.proofs.value_lines.write_answer.Goals as goal

pub returns-clause-ok : goal.returns-clause-ok
returns-clause-ok g c =
    let known = g.F.ReadAt.content c.args.file.now in
    let index = c.args.index.now in
    let form = c.args.form in
    let answer = c.args.answer in
    let bytes : List ℕ = c.deref.result.now in
    let long : c.len.result ≡ length bytes = omega (arith, c.len.ensures, c.deref.ensures.len) in
    let value : AreBytesIn known index (span_of answer).start (span_of answer).end bytes =
    subst (λ (s : Span). AreBytesIn known index s.start s.end bytes) c.span_of.ensures
    (subst (λ (l : List ℕ). AreBytesIn known index c.span_of.result.start c.span_of.result.end l) (sym c.deref.ensures.value) c.in_ok-value.ensures.value) in
    let is : OfEachText known index (λ text file. value_line form bytes c.alone.result ≡ value_line form text answer) = λ settings chunk text file i k t.
    ap (λ (a : PointerAnswer). value_line form bytes a) c.alone.ensures ∙ line_is known index form bytes c.len.result long answer value settings chunk text file i k t in
    on_ok_weaker c.write_line.result (wrote known index form answer (value_line form bytes c.alone.result) is (g.W.Sink.contents c.args.writer.now) (g.W.Sink.contents c.write_line.new.writer)) c.write_line.ensures.ok

pub returns-clause-told : goal.returns-clause-told
returns-clause-told g c =
    let known = g.F.ReadAt.content c.args.file.now in
    let index = c.args.index.now in
    let form = c.args.form in
    let answer = c.args.answer in
    let pointer : List ℕ = c.args.pointer.now in
    let bytes : List ℕ = c.deref.result.now in
    let long : c.len.result ≡ length bytes = omega (arith, c.len.ensures, c.deref.ensures.len) in
    let value : AreBytesIn known index (span_of answer).start (span_of answer).end bytes =
    subst (λ (s : Span). AreBytesIn known index s.start s.end bytes) c.span_of.ensures
    (subst (λ (l : List ℕ). AreBytesIn known index c.span_of.result.start c.span_of.result.end l) (sym c.deref.ensures.value) c.in_ok-value.ensures.value) in
    let words : OfEachText known index (λ text file. told_line form bytes pointer c.alone.result ≡ told_line form text pointer answer) = λ settings chunk text file i k t.
    ap (λ (a : PointerAnswer). told_line form bytes pointer a) c.alone.ensures ∙ told_is known index form bytes c.len.result long pointer answer value settings chunk text file i k t in
    on_ok_weaker c.write_line.result (adds known index form pointer answer (told_line form bytes pointer c.alone.result) c.args.told.now.items c.write_line.new.told.items words) c.write_line.ensures.told

pub returns-clause-beginning : goal.returns-clause-beginning
returns-clause-beginning g c = λ fails.
    let known = g.F.ReadAt.content c.args.file.now in
    let index = c.args.index.now in
    let form = c.args.form in
    let answer = c.args.answer in
    let pointer : List ℕ = c.args.pointer.now in
    let bytes : List ℕ = c.deref.result.now in
    let long : c.len.result ≡ length bytes = omega (arith, c.len.ensures, c.deref.ensures.len) in
    let value : AreBytesIn known index (span_of answer).start (span_of answer).end bytes =
    subst (λ (s : Span). AreBytesIn known index s.start s.end bytes) c.span_of.ensures
    (subst (λ (l : List ℕ). AreBytesIn known index c.span_of.result.start c.span_of.result.end l) (sym c.deref.ensures.value) c.in_ok-value.ensures.value) in
    let is : OfEachText known index (λ text file. value_line form bytes c.alone.result ≡ value_line form text answer) = λ settings chunk text file i k t.
    ap (λ (a : PointerAnswer). value_line form bytes a) c.alone.ensures ∙ line_is known index form bytes c.len.result long answer value settings chunk text file i k t in
    let words : OfEachText known index (λ text file. told_line form bytes pointer c.alone.result ≡ told_line form text pointer answer) = λ settings chunk text file i k t.
    ap (λ (a : PointerAnswer). told_line form bytes pointer a) c.alone.ensures ∙ told_is known index form bytes c.len.result long pointer answer value settings chunk text file i k t in
    began known index form answer (value_line form bytes c.alone.result) is (g.W.Sink.contents c.args.writer.now) (g.W.Sink.contents c.write_line.new.writer) pointer (told_line form bytes pointer c.alone.result) words
    (c.write_line.ensures.beginning fails)
