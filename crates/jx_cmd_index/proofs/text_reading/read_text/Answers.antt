use Rattle.std.proofs.Common.{ℕ, List, ◌++◌, ap, subst, take}
use Rattle.jx_cmd_index.specs.inside.Saving.{HasReadOn, IsSavingOf}
use Rattle.jx_cmd_index.proofs.IndexSavings.{goes_on}
use Rattle.jx_cmd_index.proofs.text_reading.read_text.Goals as goal

pub batches-preserved : goal.batches-preserved
batches-preserved g c = record {
  within = c.in_ok-filled.ensures.within;
  reader = c.in_ok-filled.ensures.going;
  read = goes_on c.args.has_names c.args.settings.now c.args.chunk (g.S.Source.remaining c.args.reader.now) (g.S.Source.remaining c.batches.reader) (g.S.Source.remaining c.fill_buffer.new.reader)
      (take c.in_ok-filled.filled c.fill_buffer.new.buffer.items) c.batches.saving c.feed.new.self c.batches.invariant.read c.in_ok-filled.ensures.ok
      (λ bytes h. subst (λ (l : List ℕ). IsSavingOf c.args.has_names c.args.settings.now c.args.chunk (bytes ++ l) c.feed.new.self) (ap (take c.in_ok-filled.filled) c.deref.ensures.value)
      (c.in_ok-feed.ensures c.args.has_names c.args.settings.now c.args.chunk bytes h));
}

pub returns-then-filled-batch-clause-ok : goal.returns-then-filled-batch-clause-ok
returns-then-filled-batch-clause-ok g c =
    let settings = c.args.settings.now in
    let on : HasReadOn c.args.has_names settings c.args.chunk (g.S.Source.remaining c.args.reader.now) (g.S.Source.remaining c.fill_buffer.new.reader) c.feed.new.self =
    goes_on c.args.has_names settings c.args.chunk (g.S.Source.remaining c.args.reader.now) (g.S.Source.remaining c.batches.reader) (g.S.Source.remaining c.fill_buffer.new.reader)
    (take c.in_ok-filled.filled c.fill_buffer.new.buffer.items) c.batches.saving c.feed.new.self c.batches.invariant.read c.in_ok-filled.ensures.ok
    (λ bytes h. subst (λ (l : List ℕ). IsSavingOf c.args.has_names settings c.args.chunk (bytes ++ l) c.feed.new.self) (ap (take c.in_ok-filled.filled) c.deref.ensures.value)
    (c.in_ok-feed.ensures c.args.has_names settings c.args.chunk bytes h)) in
    record {
      text = on.text;
      read = (on.read, c.in_ok-filled.ensures.end c.if-filled-batch.true);
      comes = c.in_ok-read.ensures c.args.has_names settings c.args.chunk on.text on.of;
    }
