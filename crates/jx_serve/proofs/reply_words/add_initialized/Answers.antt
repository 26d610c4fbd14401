use Rattle.std.proofs.Common.{◌≡◌, ℕ, List, [], ◌∷◌, ◌++◌, ap, ◌∙◌, sym, codes}
use Rattle.std.specs.List.{concat}
use Rattle.jx_serve.specs.Words.{encoding_member, initialized}
use Rattle.jx_serve.proofs.Grown.{same_by}
use Rattle.jx_serve.proofs.reply_words.add_initialized.Goals.{then-utf8, else-utf8}
use Rattle.jx_serve.proofs.reply_words.add_initialized.Goals as goal

pub returns : goal.returns
returns c =
    let o : List ℕ = c.args.out.now.items in
    let encoding : List ℕ = c.if-utf8.encoding.now in
    let encoding_is : encoding ≡ encoding_member c.args.utf8 = elim c.if-utf8.branch [
      | then-utf8 w ↦ ap (λ v. v.now) w.encoding-is ∙ sym (ap encoding_member w.if-utf8.true)
      | else-utf8 w ↦ ap (λ v. v.now) w.encoding-is ∙ sym (ap encoding_member w.if-utf8.false)
    ] in
    let version : List ℕ = c.as_bytes.result.now in
    let version_is : version ≡ codes "0.3.0" = c.as_bytes.ensures.value in
    let all : List ℕ → List ℕ → List ℕ = λ one two. o ++ concat (
    codes "{\"jsonrpc\":\"2.0\",\"id\":" ∷ c.args.id.now ∷ codes ",\"result\":{\"capabilities\":{" ∷ one
    ∷ codes "\"textDocumentSync\":{\"openClose\":true,\"change\":2},\"hoverProvider\":true,\"documentSymbolProvider\":true,\"foldingRangeProvider\":true,\"selectionRangeProvider\":true},"
    ∷ codes "\"serverInfo\":{\"name\":\"jx-lsp\",\"version\":\"" ∷ two ∷ codes "\"}}}" ∷ []
    ) in
    same_by c.add_all.result c.add_all.new.out.items (all encoding version) (o ++ initialized c.args.id.now c.args.utf8) c.add_all.ensures
    (ap (λ l. all l version) encoding_is ∙ ap (λ l. all (encoding_member c.args.utf8) l) version_is)
