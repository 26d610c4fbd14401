use Rattle.std.proofs.Common.{ℕ, List, ◌++◌, ap, subst, take}
use Rattle.jx_file_lines.specs.Feeding.{HasFedLines}
use Rattle.jx_cmd_lines.specs.inside.Reading.{HasFedOn}
use Rattle.jx_cmd_lines.proofs.LineReadings.{goes_on}
use Rattle.jx_cmd_lines.proofs.line_reading.read_lines.Goals as goal

pub batches-preserved : goal.batches-preserved
batches-preserved g c = record {
  within = c.in_ok-filled.ensures.within;
  reader = c.in_ok-filled.ensures.going;
  read = goes_on c.args.chunk (g.S.Source.remaining c.args.reader.now) (g.S.Source.remaining c.batches.reader) (g.S.Source.remaining c.fill_buffer.new.reader) (take c.in_ok-filled.filled c.fill_buffer.new.buffer.items)
      c.batches.indexer c.feed.new.self c.batches.invariant.read c.in_ok-filled.ensures.ok
      (λ chunk bytes h. subst (λ (l : List ℕ). HasFedLines chunk (bytes ++ l) c.feed.new.self) (ap (take c.in_ok-filled.filled) c.deref.ensures.value) (c.in_ok-feed.ensures.fed chunk bytes h));
}

pub returns-then-filled-batch-clause-ok : goal.returns-then-filled-batch-clause-ok
returns-then-filled-batch-clause-ok g c =
    let on : HasFedOn c.args.chunk (g.S.Source.remaining c.args.reader.now) (g.S.Source.remaining c.fill_buffer.new.reader) c.feed.new.self =
    goes_on c.args.chunk (g.S.Source.remaining c.args.reader.now) (g.S.Source.remaining c.batches.reader) (g.S.Source.remaining c.fill_buffer.new.reader) (take c.in_ok-filled.filled c.fill_buffer.new.buffer.items)
    c.batches.indexer c.feed.new.self c.batches.invariant.read c.in_ok-filled.ensures.ok
    (λ chunk bytes h. subst (λ (l : List ℕ). HasFedLines chunk (bytes ++ l) c.feed.new.self) (ap (take c.in_ok-filled.filled) c.deref.ensures.value) (c.in_ok-feed.ensures.fed chunk bytes h)) in
    record {
      text = on.bytes;
      read = (on.read, c.in_ok-filled.ensures.end c.if-filled-batch.true);
      is_index = c.in_ok-index.ensures.index c.args.chunk on.bytes on.fed;
      savable = c.in_ok-index.ensures.savable c.args.chunk on.bytes on.fed;
    }
