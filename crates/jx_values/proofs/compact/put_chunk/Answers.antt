use Rattle.std.proofs.Common.{List, ℕ}
use Rattle.jx_compact.specs.Compact.{compact_from}
use Rattle.jx_words.proofs.PutSteps.{put_more}
use Rattle.jx_values.proofs.compact.put_chunk.Goals as goal

pub returns-clause-ok : goal.returns-clause-ok
returns-clause-ok g c =
    let contents = g.W.Sink.contents in
    let stays : List ℕ = compact_from c.args.place c.args.chunk.now in
    put_more (contents c.args.writer.now) (contents c.make_room.new.writer) c.make_room.new.out.items c.args.out.now.items c.in_ok-make_room.ensures.ok
    c.compact_onto.new.out.items stays c.compact_onto.ensures.items
