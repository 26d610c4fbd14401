use Rattle.jx_file_query.proofs.walk.PausedWalk.resume.Goals as goal

pub returns-clause-come : goal.returns-clause-come
returns-clause-come c = λ settings chunk text pointers h.
    record { known = h.known; pointers_are = h.pointers_are; trie = h.trie; ways = h.ways; names = tt; kept = h.kept; kept_is = h.kept_is; held = h.held }
