use Rattle.jx_parallel_report.proofs.elements_reader.ElementsReader.go_on.Goals as goal

pub returns-clause-read : goal.returns-clause-read
returns-clause-read c = λ rule xs h.
    let old = c.args.self.now in
    record {
      judged = h.judged;
      read = c.elements_of_two_parts.ensures.gone_on rule.depth xs c.args.bytes.now h.judged old.reader _ old.open_ended _ h.read c.requires.unseparated c.feed.ensures.settings c.feed.ensures.start c.in_ok-feed.ensures.reads
          c.ends_open_behind-self.ensures;
      told = h.told;
    }
