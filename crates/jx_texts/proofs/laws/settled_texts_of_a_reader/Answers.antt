use Rattle.jx_texts.proofs.Told.{settled}
use Rattle.jx_texts.proofs.laws.settled_texts_of_a_reader.Goals as goal

pub returns : goal.returns
returns c = record { told = λ limit at bytes told r h. settled c.reader_and_grammar.ensures.verdict limit at bytes told r h }
