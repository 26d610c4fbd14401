use Rattle.std.proofs.Common.{◌+◌, ℕ, List, drop, get_or, subst}
use Rattle.std.specs.Io.KnownBytes.{Appends}
use Rattle.jx_words.specs.Showing.{escaped, shown_byte}
use Rattle.jx_words.proofs.Shown.{escaped_more, written_more}
use Rattle.jx_words.proofs.showing.write_escaped.Goals as goal

pub loop-byte-preserved : goal.loop-byte-preserved
loop-byte-preserved g c =
    let bytes = c.args.bytes.now in
    let i = c.loop-byte.byte-index in
    record {
      going = c.in_ok-write_whole.ensures.failed;
      written = written_more (g.E.Sink.contents c.args.sink.now) (g.E.Sink.contents c.loop-byte.sink) (g.E.Sink.contents c.write_whole.new.writer)
          (escaped (drop i bytes)) (shown_byte (get_or bytes i 0)) (escaped (drop (i + 1) bytes)) (escaped bytes) c.loop-byte.invariant.written
          (escaped_more bytes i c.loop-byte-test.true)
          (subst (λ (x : List ℕ). Appends (g.E.Sink.contents c.loop-byte.sink) (g.E.Sink.contents c.write_whole.new.writer) x) c.shown_byte.ensures c.in_ok-write_whole.ensures.ok);
    }
