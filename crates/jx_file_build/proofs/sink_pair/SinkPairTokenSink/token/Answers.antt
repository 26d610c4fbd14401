use Rattle.jx_file_build.proofs.sink_pair.SinkPairTokenSink.token.Goals as goal

pub returns-clause-seen : goal.returns-clause-seen
returns-clause-seen g c = λ marks ends h. (c.in_ok-token.ensures.seen marks ends h.0, c.in_ok-token-2.ensures.seen marks ends h.1)
