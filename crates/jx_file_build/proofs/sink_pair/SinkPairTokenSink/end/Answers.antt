use Rattle.jx_file_build.proofs.sink_pair.SinkPairTokenSink.end.Goals as goal

pub returns-clause-seen : goal.returns-clause-seen
returns-clause-seen g c = λ marks ends h. (c.in_ok-end.ensures.seen marks ends h.0, c.in_ok-end-2.ensures.seen marks ends h.1)
