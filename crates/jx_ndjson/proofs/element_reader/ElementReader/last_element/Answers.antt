use Rattle.jx_ndjson.proofs.element_reader.ElementReader.last_element.Goals as goal

pub returns : goal.returns
returns c = λ settings input told h. c.without_mark.ensures settings input told h (c.judged.ensures settings input told h)
