use Rattle.std.proofs.lemmas.Result.{IfOk-weaker}
use Rattle.jx_cmd_index.proofs.index_reader.IndexReader.finish.Goals as goal

pub returns : goal.returns
returns g c = IfOk-weaker c.finish.result _ _ (λ read comes rule bytes h. comes g.K.Asked.has_names g.K.Asked.settings g.K.Asked.chunk bytes h.saving_is) c.finish.ensures
