use Rattle.std.proofs.Common.{◌≡◌, ℕ, ◌+◌, ◌≤◌, List, ◌++◌, arith, drop, refl, rules}
use Rattle.std.specs.Prelude.{slice_range}
use Rattle.jx_compact.specs.declared.place.Place.{Place}
use Rattle.jx_compact.specs.Compact.{compact, compact_from, place_behind}
use Rattle.jx_ends.specs.Ends.{AppendsBeginning}
use Rattle.jx_values.proofs.Chunks.{next_chunk}
use Rattle.jx_values.proofs.Lines.{fails, one_more}
use Rattle.jx_values.proofs.compact.put_compact.Goals as goal

pub returns-in_err-place-clause-err : goal.returns-in_err-place-clause-err
returns-in_err-place-clause-err g c =
    let contents = g.W.Sink.contents in
    let l = c.loop-start in
    let bytes : List ℕ = c.args.bytes.now in
    let start : ℕ = l.start in
    let end : ℕ = start + c.min.result in
    let place : Place = l.place in
    let chunk : List ℕ = slice_range bytes start end in
    let whole : List ℕ = c.args.out.now.items ++ compact bytes in
    let high : start ≤ end = omega arith in
    let step : compact_from place chunk ++ compact_from (place_behind place chunk) (drop end bytes) ≡ compact_from place (drop start bytes) =
    next_chunk place (place_behind place chunk) bytes chunk start end high refl refl in
    let beginning : AppendsBeginning (contents c.args.writer.now) (contents c.put_chunk.new.writer) whole =
    fails (contents c.args.writer.now) (contents l.writer) l.out.items (compact_from place (drop start bytes)) whole l.invariant.put
    (compact_from place chunk) (compact_from (place_behind place chunk) (drop end bytes)) step (contents c.put_chunk.new.writer) c.in_err-place.ensures.err in
    search (rules, beginning)

pub loop-start-preserved : goal.loop-start-preserved
loop-start-preserved g c =
    let contents = g.W.Sink.contents in
    let l = c.loop-start in
    let bytes : List ℕ = c.args.bytes.now in
    let start : ℕ = l.start in
    let end : ℕ = start + c.min.result in
    let place : Place = l.place in
    let next : Place = c.in_ok-place.place in
    let chunk : List ℕ = slice_range bytes start end in
    let high : start ≤ end = omega arith in
    let step : compact_from place chunk ++ compact_from next (drop end bytes) ≡ compact_from place (drop start bytes) =
    next_chunk place next bytes chunk start end high refl c.in_ok-place.ensures.place in
    record {
      put =
          one_more (contents c.args.writer.now) (contents l.writer) l.out.items (compact_from place (drop start bytes)) (c.args.out.now.items ++ compact bytes) l.invariant.put
          (compact_from place chunk) (compact_from next (drop end bytes)) step (contents c.put_chunk.new.writer) c.put_chunk.new.out.items c.in_ok-place.ensures.ok;
      going = c.in_ok-place.ensures.failed;
      large = c.in_ok-place.ensures.large;
      within = omega (arith, c.min.ensures);
    }
