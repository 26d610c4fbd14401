use Rattle.std.specs.List.{All}
use Rattle.std.proofs.Common.{[], sym, subst}
use Rattle.std.proofs.lemmas.List.Elements.{All-push}
use Rattle.jx_values.specs.inside.Kept.{IsKeptOf}
use Rattle.jx_values.proofs.value_reader.none_kept.Goals as goal

pub loop-preserved : goal.loop-preserved
loop-preserved c = subst (All (IsKeptOf [])) (sym c.in_ok-push.ensures.items) (All-push (IsKeptOf []) c.loop.kept.items c.new.result c.loop.invariant (c.new.ensures []))
