use Rattle.std.proofs.Common.{◌≡◌, ◌+◌, ◌<◌, ◌^◌, sym, ap, subst, arith}
use Rattle.std.proofs.lemmas.List.{length-append}
use Rattle.jx_summary.specs.declared.span.Span.{Span}
use Rattle.jx_run.specs.Reader.{ReaderValue, HasRead, is_fault}
use Rattle.jx_run.specs.ReaderInside.{reader_of, outcome_at, IsOfUse, IsReadTo}
use Rattle.jx_run.specs.declared.readers.progress.Progress.{Progress}
use Rattle.jx_run.specs.declared.readers.progress.Progress.TheVariants.{Going}
use Rattle.jx_run.proofs.ReaderFeeds.{going, passed}
use Rattle.jx_run.proofs.readers.reader.Reader.follow.Goals as goal

pub returns-in-Stopped-clause-reads : goal.returns-in-Stopped-clause-reads
returns-in-Stopped-clause-reads c = λ bytes more h r.
    let a = c.self.inside in
    let k : HasRead bytes (reader_of a) = subst (HasRead bytes) (sym c.self.view_is) h in
    let end : c.span.result.end ≡ c.args.run.now.end = ap (λ (s : Span). s.end) c.span.ensures.span in
    record {
      count = omega (arith, k.count, length-append bytes more, end, r.long, c.requires.start);
      outcome = passed a.settings a.start bytes more (outcome_at a.progress a.stack.reading) (ap (λ p. is_fault (outcome_at p a.stack.reading)) c.in-Stopped.is) k.outcome;
    }

pub returns-in-TooDeep-clause-reads : goal.returns-in-TooDeep-clause-reads
returns-in-TooDeep-clause-reads c = λ bytes more h r.
    let a = c.self.inside in
    let k : HasRead bytes (reader_of a) = subst (HasRead bytes) (sym c.self.view_is) h in
    let end : c.span.result.end ≡ c.args.run.now.end = ap (λ (s : Span). s.end) c.span.ensures.span in
    record {
      count = omega (arith, k.count, length-append bytes more, end, r.long, c.requires.start);
      outcome = passed a.settings a.start bytes more (outcome_at a.progress a.stack.reading) (ap (λ p. is_fault (outcome_at p a.stack.reading)) c.in-TooDeep.is) k.outcome;
    }

pub invariant_of-self-2 : goal.invariant_of-self-2
invariant_of-self-2 c =
    let a = c.self.inside in
    let of_use : IsOfUse (Going c.in-Going.state) a.settings.mark a.settings.depth a.stack = subst (λ (p : Progress). IsOfUse p a.settings.mark a.settings.depth a.stack) c.in-Going.is c.self.invariant.of_use in
    let goes = c.in_ok-self-inside.ensures.goes_on of_use.0.marks c.requires.of.0 of_use.0.read c.requires.of.1 in
    let end : c.span.result.end ≡ c.args.run.now.end = ap (λ (s : Span). s.end) c.span.ensures.span in
    let fit : a.start + a.count + c.args.run.now.end < 2 ^ 64 = subst (λ (v : ReaderValue). v.start + v.count + c.args.run.now.end < 2 ^ 64) (sym c.self.view_is) c.requires.fits in
    record {
      fits = omega (arith, end, fit);
      cut = c.in_ok-self-inside.ensures.cut;
      of_use = subst (λ d. IsOfUse c.in_ok-self-inside.field-0 a.settings.mark d c.read_run.new.stack) of_use.0.depth_is (goes.of_use a.settings.mark);
    }

pub returns-clause-reads : goal.returns-clause-reads
returns-clause-reads c = λ bytes more h r.
    let a = c.self.inside in
    let k : HasRead bytes (reader_of a) = subst (HasRead bytes) (sym c.self.view_is) h in
    let end : c.span.result.end ≡ c.args.run.now.end = ap (λ (s : Span). s.end) c.span.ensures.span in
    let fit : a.start + a.count + c.args.run.now.end < 2 ^ 64 = subst (λ (v : ReaderValue). v.start + v.count + c.args.run.now.end < 2 ^ 64) (sym c.self.view_is) c.requires.fits in
    let here : IsReadTo a.settings a.start bytes (Going c.in-Going.state) a.stack =
    subst (λ (p : Progress). IsReadTo a.settings a.start bytes p a.stack) c.in-Going.is (record { outcome = k.outcome; of_use = c.self.invariant.of_use }) in
    let goes = c.in_ok-self-inside.ensures.goes_on here.of_use.0.marks more here.of_use.0.read r in
    record {
      count = omega (arith, k.count, length-append bytes more, end, r.long, c.requires.start);
      outcome =
          (going c.reader_and_grammar.ensures.first_fault a.settings a.start (a.start + a.count) bytes more c.in-Going.state a.stack c.read_run.new.stack c.in_ok-self-inside.field-0
          (ap (λ n. a.start + n) k.count) (omega (arith, fit, r.long, c.requires.start)) here goes).outcome;
    }
