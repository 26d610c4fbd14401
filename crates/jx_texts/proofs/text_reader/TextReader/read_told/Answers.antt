use Rattle.std.proofs.Common.{ℕ, List, [], ◌++◌, length, sym, subst, ap, ◌∙◌, arith}
use Rattle.std.proofs.lemmas.List.{take_all}
use Rattle.jx_run.specs.Reader.{is_fault}
use Rattle.jx_texts.specs.Reading.{HasTold, TextReaderValue}
use Rattle.jx_texts.proofs.Told.{lost_told}
use Rattle.jx_texts.proofs.text_reader.TextReader.read_told.Goals as goal

pub returns-clause-told : goal.returns-clause-told
returns-clause-told c = λ limit at bytes told h.
    let i = c.self.inside in
    let r : TextReaderValue = record { reader = i.reader; stage = i.stage } in
    let slice : List ℕ = c.args.slice.now in
    let k : HasTold limit at bytes told r = subst (λ (v : TextReaderValue). HasTold limit at bytes told v) (sym c.self.view_is) h in
    let stage = ap (λ (v : TextReaderValue). v.stage) c.self.view_is ∙ c.requires.stage in
    let fault = ap (λ (v : TextReaderValue). is_fault v.reader.outcome) c.self.view_is ∙ c.requires.fault in
    let new : TextReaderValue = record { reader = c.feed.new.self; stage = i.stage } in
    subst (λ (xs : List ℕ). HasTold limit at (bytes ++ xs) (told ++ ([] ++ [])) new) (sym (take_all (length slice) slice (omega arith)))
    (lost_told limit at bytes slice told r new k stage stage c.feed.ensures.settings c.feed.ensures.start c.in_ok-feed.ensures.reads fault)
