use Rattle.jx_file_lines.proofs.Starts.{IsBehind}
use Rattle.jx_file_lines.proofs.place.behind_feeds.Given as goal

abbrev pub invariant-feeds : goal.invariant-feeds
invariant-feeds l = IsBehind l.bytes l.counter l.at
