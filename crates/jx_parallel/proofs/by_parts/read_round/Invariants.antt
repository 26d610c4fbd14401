use Rattle.std.specs.Prelude.{Some}
use Rattle.jx_parallel.proofs.by_parts.read_round.Given as goal

abbrev pub ghosts-read_round_of : goal.ghosts-read_round_of
ghosts-read_round_of g a = record { text = g.F.SharedAt.content a.file.now; rule = Some a.rule.now }
