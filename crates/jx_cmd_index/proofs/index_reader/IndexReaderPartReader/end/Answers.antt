use Rattle.jx_cmd_index.proofs.index_reader.IndexReaderPartReader.end.Goals as goal

pub returns-clause-length : goal.returns-clause-length
returns-clause-length g c = λ rule xs given h. h.count_is
