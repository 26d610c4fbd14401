use Rattle.std.proofs.Common.{[], subst, sym}
use Rattle.std.proofs.lemmas.Result.{IfOk-weaker}
use Rattle.jx_run.specs.Telling.{track_of}
use Rattle.jx_index.specs.inside.InTurn.{IsInTurn}
use Rattle.jx_find.proofs.reading.seek.Goals as goal

pub feed_into-requires-clause-turn : goal.feed_into-requires-clause-turn
feed_into-requires-clause-turn g c = subst (IsInTurn c.args.reader.now.outcome) (sym c.new-sink.ensures.begun) c.requires.turn

pub returns-clause-held : goal.returns-clause-held
returns-clause-held g c =
    IfOk-weaker c.into_held.result _ _
    (λ next last going before is bytes marks ends was.
    let track = track_of before c.args.slice.now in
    last track.marks track.ends (c.in_ok-told.ensures.told going before is [] [] c.new-sink.ensures.seen) bytes marks ends was)
    c.into_held.ensures.held

pub returns-clause-turn : goal.returns-clause-turn
returns-clause-turn g c =
    IfOk-weaker c.into_held.result _ _ (λ next same. subst (IsInTurn c.feed_into.new.self.outcome) (sym same) c.in_ok-told.ensures.turn) c.into_held.ensures.begun
