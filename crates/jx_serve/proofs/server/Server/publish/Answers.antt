use Rattle.std.proofs.Common.{◌≡◌, List, arith, inr, ap, length, set}
use Rattle.std.proofs.lemmas.List.{set-get_or}
use Rattle.jx_serve.specs.Served.{OpenValue, ServerValue}
use Rattle.jx_serve.proofs.Documents.{get_set}
use Rattle.jx_serve.proofs.server.Server.publish.Goals as goal

pub returns-clause-same : goal.returns-clause-same
returns-clause-same c =
    let documents : set c.self.inside.documents.items c.args.number c.published.new.self ≡ c.self.inside.documents.items =
    cc (set-get_or c.self.inside.documents.items c.args.number c.index_mut.result.now, c.index_mut.ensures.value, c.published.ensures.same) in
    let view = λ (l : List OpenValue). let s : ServerValue = record { phase = c.self.inside.phase; encoding = c.self.inside.encoding; settings = c.self.inside.settings; nested = c.self.inside.nested; documents = l } in s in
    cc (ap view documents, c.self.view_is)

pub returns-clause-tells : goal.returns-clause-tells
returns-clause-tells c =
    inr (record {
      number = c.args.number;
      document = c.published.new.self;
      is_open = get_set c.self.inside.documents.items c.args.number c.published.new.self (omega (arith, c.requires, ap (λ (s : ServerValue). length s.documents) c.self.view_is));
      tells = c.published.ensures.tells;
    })
