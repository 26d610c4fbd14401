use Rattle.jx_file_build.proofs.sink_pair.SinkPairTokenSink.begin.Goals as goal

pub returns-clause-seen : goal.returns-clause-seen
returns-clause-seen g c = λ marks ends h. (c.in_ok-begin.ensures.seen marks ends h.0, c.in_ok-begin-2.ensures.seen marks ends h.1)
