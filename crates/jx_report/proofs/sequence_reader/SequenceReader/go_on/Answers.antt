use Rattle.std.proofs.Common.{ap, sym, subst, ◌∙◌}
use Rattle.jx_run.specs.SequenceRead.{AreRead}
use Rattle.jx_report.specs.declared.sequence_reader.SequenceReader.{SequenceReader}
use Rattle.jx_report.specs.inside.Sequences.{AreKept}
use Rattle.jx_report.proofs.SequenceSteps.{named_longer}
use Rattle.jx_report.proofs.sequence_reader.SequenceReader.go_on.Goals as goal

pub returns-clause-reads : goal.returns-clause-reads
returns-clause-reads g c = λ settings text h.
    let bytes = c.args.bytes.now in
    let kept : SequenceReader = c.keep_last.new.self in
    let same = c.in_ok-keep_last.ensures.rest in
    let read : AreRead settings.depth text h.told kept.reader kept.open_ended = subst (λ (s : SequenceReader). AreRead settings.depth text h.told s.reader s.open_ended) (sym same) h.read in
    let told : AreKept settings text h.told kept = subst (λ (s : SequenceReader). AreKept settings text h.told s) (sym same) h.kept in
    record {
      settings_are = ap (λ (s : SequenceReader). s.settings) same ∙ h.settings_are;
      told = h.told;
      read = c.elements_of_two_parts.ensures.gone_on settings.depth text bytes h.told kept.reader _ kept.open_ended _ read c.requires.unseparated c.in_ok-read_batch.ensures.settings
          c.in_ok-read_batch.ensures.start c.in_ok-read_batch.ensures.reads c.ends_open_behind-self.ensures;
      kept = named_longer settings text bytes h.told kept.judged.items told;
      held = λ unique. (let f = c.in_ok-keep_last.ensures.held text h.held unique in (f.0, f.1, f.2 ∙ sym c.in_ok-read_batch.ensures.start));
    }
