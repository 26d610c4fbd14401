use Rattle.std.proofs.Common.{◌≡◌, ◌-◌, ◌∙◌, List, ℕ, ap, length}
use Rattle.jx_serve.specs.Served.{ServerValue}
use Rattle.jx_serve.specs.Steps.{with_documents, without}
use Rattle.jx_serve.proofs.Documents.{not_opened, opened}
use Rattle.jx_serve.proofs.server.Server.open.Goals as goal

pub returns-in-Ok-clause-steps : goal.returns-in-Ok-clause-steps
returns-in-Ok-clause-steps c =
    let before = c.args.self.now in
    let cut : c.forget.new.self ≡ with_documents (without c.args.document.uri.name.items before.documents) before =
    c.forget.ensures ∙ ap (λ (l : List ℕ). with_documents (without l before.documents) before) c.deref.ensures.value in
    let count : c.len-last.result ≡ length c.add.new.self.documents = c.len-last.ensures ∙ c.self.inside.documents.ok.0 ∙ ap (λ (s : ServerValue). length s.documents) c.self.view_is in
    opened c.args.document c.args.content c.args.text before c.forget.new.self c.add.new.self c.publish.new.self _ c.publish.result cut c.in-Ok.ensures.ok (ap (λ n. n - 1) count) c.publish.ensures.same c.publish.ensures.told

pub returns-clause-steps : goal.returns-clause-steps
returns-clause-steps c =
    let before = c.args.self.now in
    let cut : c.forget.new.self ≡ with_documents (without c.args.document.uri.name.items before.documents) before =
    c.forget.ensures ∙ ap (λ (l : List ℕ). with_documents (without l before.documents) before) c.deref.ensures.value in
    not_opened c.args.document c.args.content c.args.text before c.forget.new.self c.add.new.self c.logged.result cut c.in-Err.ensures.err c.logged.ensures.same
