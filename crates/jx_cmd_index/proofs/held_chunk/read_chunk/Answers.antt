use Rattle.std.proofs.Common.{◌≡◌, ◌-◌, false, rules, arith}
use Rattle.jx_cmd_index.proofs.HeldChunks.{kept_bytes, other_bytes}
use Rattle.jx_cmd_index.proofs.held_chunk.read_chunk.Goals as goal

pub returns-then-not-is_kept-clause-changed : goal.returns-then-not-is_kept-clause-changed
returns-then-not-is_kept-clause-changed g c =
    let known = g.F.ReadAt.content c.args.file.now in
    let place = c.place_of-place.result in
    let read = c.in_ok-read_part.ensures in
    let no : c.is_kept.result ≡ false = search rules in
    other_bytes known c.args.index.now place.number place.span c.read_part.new.buffer.items c.deref.result.now c.requires.size c.place_of-place.ensures.chunk (omega (arith, c.place_of-place.ensures.start, c.place_of-place.ensures.end)) read.there read.within read.all c.deref.ensures.value
    (c.is_kept.ensures.other no)

pub returns-clause-held : goal.returns-clause-held
returns-clause-held g c =
    let known = g.F.ReadAt.content c.args.file.now in
    let place = c.place_of-place.result in
    let read = c.in_ok-read_part.ensures in
    record {
      long = search rules;
      bytes = kept_bytes known c.args.index.now place.number place.span c.read_part.new.buffer.items c.deref.result.now c.requires.size c.place_of-place.ensures.chunk (omega (arith, c.place_of-place.ensures.start, c.place_of-place.ensures.end)) read.there read.within read.all c.deref.ensures.value
          (c.is_kept.ensures.same (search rules));
    }
