use Rattle.std.proofs.Common.{◌≡◌, ◌+◌, ◌++◌, length, sym, ap, ◌∙◌}
use Rattle.jx_parallel_report.proofs.Elements.{told_all}
use Rattle.jx_parallel_report.proofs.elements_reader.ElementsReader.take_in.Goals as goal

pub returns-clause-taken : goal.returns-clause-taken
returns-clause-taken c = λ xs ys h len p.
    let old = c.args.self.now in
    let rule = c.args.rule.now in
    let ended = c.end_element.new.self in
    let laws = c.elements_of_two_parts.ensures in
    let e = c.in_ok-end_element.ensures.ended xs h in
    let same : ended.reader ≡ old.reader = c.end_element.ensures.reader in
    let reached : old.reader.start + old.reader.count ≡ length xs = laws.reached rule.depth xs h.judged old.reader old.open_ended h.read in
    let before : c.end-before.result ≡ length xs = c.end-before.ensures ∙ ap (λ r. r.start + r.count) same ∙ reached in
    let there : c.reset.new.self.start ≡ length xs + length ys = c.reset.ensures.start ∙ ap (λ n. n + c.args.len) before ∙ ap (λ n. length xs + n) (sym len) in
    record {
      judged = e.judged ++ p.judged;
      read = laws.marked rule.depth xs ys e.judged p.judged c.reset.new.self e.are p.starts p.ends p.are
          (ap (λ s. s.depth) c.reset.ensures.settings ∙ ap (λ r. r.settings.depth) same ∙ h.read.depth)
          (ap (λ s. s.mark) c.reset.ensures.settings ∙ ap (λ r. r.settings.mark) same ∙ h.read.mark)
          there c.reset.ensures.reads;
      told = told_all rule.is_quiet e.judged p.judged ended.told.words.items c.args.part.words.items _ ended.told.exit c.args.part.exit _ e.told p.told c.in_ok-append.ensures.items c.exit_by-exit.ensures;
    }
