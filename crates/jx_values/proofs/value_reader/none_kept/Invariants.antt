-- Nothing is kept so far.
use Rattle.std.specs.List.{All}
use Rattle.std.proofs.Common.{[]}
use Rattle.jx_values.specs.inside.Kept.{IsKeptOf}
use Rattle.jx_values.proofs.value_reader.none_kept.Given as goal

abbrev pub invariant-loop : goal.invariant-loop
invariant-loop l = All (IsKeptOf []) l.kept.items
