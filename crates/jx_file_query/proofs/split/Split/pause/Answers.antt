use Rattle.jx_file_query.proofs.split.Split.pause.Goals as goal

pub returns-clause-come : goal.returns-clause-come
returns-clause-come c = λ settings chunk text h. record { known = h.known; kept = h.kept; kept_is = h.kept_is; cut = h.cut }
