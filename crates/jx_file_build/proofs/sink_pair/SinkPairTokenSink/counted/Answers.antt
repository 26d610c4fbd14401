use Rattle.jx_file_build.proofs.sink_pair.SinkPairTokenSink.counted.Goals as goal

pub returns-clause-seen : goal.returns-clause-seen
returns-clause-seen g c = λ more others has marks ends h. (c.in_ok-counted.ensures.seen more others has marks ends h.0, c.in_ok-counted-2.ensures.seen more others has marks ends h.1)
