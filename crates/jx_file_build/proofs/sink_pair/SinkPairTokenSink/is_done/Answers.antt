use Rattle.jx_file_build.proofs.sink_pair.SinkPairTokenSink.is_done.Goals as goal

pub returns : goal.returns
returns g c = λ done marks more ends others h. (c.is_done.ensures c.if-not-is_done.false marks more ends others h.0, c.is_done-2.ensures done marks more ends others h.1)
