use Rattle.std.proofs.Common.{◌≡◌, ◌∙◌, Option, Some, [], ap, subst, sym}
use Rattle.std.specs.Prelude.{is_some}
use Rattle.jx_run.specs.Reader.{Outcome, read_by}
use Rattle.jx_run.specs.Telling.{at_start, tokens_by}
use Rattle.jx_index.specs.inside.InTurn.{IsInTurn}
use Rattle.jx_index.proofs.InTurns.{first_turn}
use Rattle.jx_file_query.proofs.WalkComings.{all_read, none_yet}
use Rattle.jx_file_query.proofs.walk_reading.read_first.Goals as goal

pub feed_into-requires-clause-turn : goal.feed_into-requires-clause-turn
feed_into-requires-clause-turn g c = first_turn c.new-reader.result c.new-sink.result.begun c.new-reader.ensures.reads (ap is_some c.new-sink.ensures.begun ∙ c.requires.turn)

pub returns-clause-held : goal.returns-clause-held
returns-clause-held g c = λ bytes marks ends was.
    let settings = c.args.settings.now in
    let track = tokens_by settings.mark c.args.slice.now in
    let begins = none_yet c.new-reader.result settings c.new-reader.ensures.settings c.new-reader.ensures.start c.new-reader.ensures.reads in
    c.in_ok-next.ensures.held track.marks track.ends (c.in_ok-told.ensures.told (sym c.is_done.ensures ∙ c.if-is_done.false) (at_start settings.mark) begins [] [] c.new-sink.ensures.seen) bytes marks ends was

pub returns-clause-turn : goal.returns-clause-turn
returns-clause-turn g c =
    let reader = c.feed_into.new.self in
    let settings = c.args.settings.now in
    let told = c.in_ok-told.ensures in
    let is : reader.outcome ≡ Some (read_by settings.mark settings.depth 0 c.args.slice.now) =
    all_read reader settings c.args.slice.now (told.settings ∙ c.new-reader.ensures.settings) (told.start ∙ c.new-reader.ensures.start) (told.reads [] c.new-reader.ensures.reads) in
    subst (λ (o : Option Outcome). IsInTurn o c.in_ok-next.next.begun) is (subst (IsInTurn reader.outcome) (sym c.in_ok-next.ensures.begun) told.turn)
