use Rattle.std.proofs.Common.{◌++◌, ◌∷◌, List, [], subst, append_assoc}
use Rattle.std.specs.Prelude.{Option}
use Rattle.jx_texts.specs.declared.judged_text.JudgedText.{JudgedText}
use Rattle.jx_texts.specs.Reading.{HasTold, listed}
use Rattle.jx_texts.proofs.Told.{bare_ends_begun}
use Rattle.jx_texts.proofs.text_reader.TextReader.end_at_text.Goals as goal

pub returns-clause-told : goal.returns-clause-told
returns-clause-told c = λ limit at bytes told h.
    let text : JudgedText = c.end_text-text.result in
    let begun = bare_ends_begun c.reader_and_grammar.ensures.verdict limit at bytes c.args.border told c.args.self.now h c.requires.stage c.requires.border c.end_text-text.new.self.reader text
    (λ xs read. c.requires.accepted limit xs h.by read) c.end_text-text.ensures.text c.requires.no_blank c.end_text-text.ensures.settings c.end_text-text.ensures.start c.end_text-text.ensures.reads in
    let after = c.in_ok-begun.ensures.told limit at (bytes ++ c.args.border ∷ []) (told ++ text ∷ []) begun in
    let list : List JudgedText = listed c.in_ok-begun.begun.refused in
    subst (λ (ts : List JudgedText). HasTold limit at (bytes ++ c.args.border ∷ []) ts c.begin_text.new.self) (append_assoc told (text ∷ []) list)
    (subst (λ (o : Option JudgedText). HasTold limit at (bytes ++ c.args.border ∷ []) ((told ++ text ∷ []) ++ (listed o ++ list)) c.begin_text.new.self) c.in_ok-begun.ensures.none after)
