use Rattle.jx_ndjson.proofs.laws.ended_elements_of_a_reader.Goals as goal

pub returns : goal.returns
returns c = record { told = λ settings input told r h. h.answers }
