use Rattle.std.proofs.Common.{◌≡◌, [], subst, sym}
use Rattle.std.specs.Prelude.{is_some}
use Rattle.jx_run.specs.Telling.{track_of}
use Rattle.jx_index.specs.inside.InTurn.{IsInTurn}
use Rattle.jx_file_build.proofs.Tallies.{both_await, other_awaits}
use Rattle.jx_file_build.proofs.chunk_reading.name_chunk.Goals as goal

pub feed_into-requires-clause-turn : goal.feed_into-requires-clause-turn
feed_into-requires-clause-turn g c = λ before is.
    let turn = subst (IsInTurn c.args.reader.now.outcome) (sym c.new-2.ensures.begun) c.requires.turn in
    both_await (λ inside. is_some c.new-2.result.begun ≡ inside) before (turn before is)

pub returns-clause-reads : goal.returns-clause-reads
returns-clause-reads g c = let e = c.in_ok-told.ensures in record { settings = e.settings; start = e.start; reads = e.reads }

pub returns-clause-sums : goal.returns-clause-sums
returns-clause-sums g c = λ going before is. (c.in_ok-told.ensures.told going before is [] [] (c.new.ensures, c.new-2.ensures.seen)).0

pub returns-clause-named : goal.returns-clause-named
returns-clause-named g c = λ going before is.
    let track = track_of before c.args.chunk.now in
    c.in_ok-names.ensures.told track.marks track.ends (c.in_ok-told.ensures.told going before is [] [] (c.new.ensures, c.new-2.ensures.seen)).1

pub returns-clause-turn : goal.returns-clause-turn
returns-clause-turn g c =
    let told = c.in_ok-told.told in
    subst (IsInTurn c.feed_into.new.self.outcome) (sym c.in_ok-names.ensures.begun)
    (λ came is. other_awaits (λ inside. is_some told.other.begun ≡ inside) came (c.in_ok-told.ensures.turn came is))
